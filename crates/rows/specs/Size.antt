-- A number that falls from an item to what stands in it, and from a row to what is left of it: a reader over the table ends. Assumes nothing.
use Rattle.std.specs.Prelude.{◌≡◌, Bool, List, [], ◌∷◌, length, get_or, drop}
use Rattle.std.proofs.Common.{sym, ◌∙◌, add-one, drop-cons}
use Rattle.std.proofs.Math.Path.{ap}
use Prim.Native.Nat.{ℕ, suc, zero, ◌+◌, ◌≤◌, ◌<◌}
use native.Mathlib.Omega.{arith}
use Rattle.std.proofs.Math.Seq.{drop-nil}
use Rattle.terms.specs.declared.Field.{Field}
use Rattle.tags.specs.declared.Tag.{Tag}
use Rattle.layouts.specs.Layout.{Item, leaf, node, list, wrap, Members, end, ◌▸◌, Member as Part, known, one, maybe, flag, choose}
use Rattle.primitives.specs.declared.Content.{Content}
use Rattle.primitives.specs.declared.Primitive.{Primitive}
use Rattle.structures.specs.declared.Row.{Row}
use Rattle.structures.specs.declared.Structure.{Structure}
use Rattle.structures.specs.declared.Build.{Build}
use Rattle.structures.specs.declared.Build.TheVariants as build
use Rattle.structures.specs.Structure.{row_of, layout_of, item_of}
use Rattle.rows.specs.declared.Member.{Member}
use Rattle.rows.specs.declared.Member.TheVariants as member
use Rattle.rows.specs.Row.{members_of}

unfoldable mutual
  pub size : Item → ℕ
  size (leaf l) = 0
  size (node t r) = suc (suc (sizes r))
  size (list t e n f i) = suc (suc (size i))
  size (wrap t i) = suc (size i)

  pub sizes : Members → ℕ
  sizes end = 0
  sizes (m ▸ r) = size_part m + sizes r

  pub size_part : Part → ℕ
  size_part (known k) = 0
  size_part (one f i) = suc (size i)
  size_part (maybe f i) = suc (size i)
  size_part (flag f) = 0
  size_part (choose f l t g i j) = suc (size i + size j)

unfoldable pub size_of : Member → ℕ
size_of member.Blank = 0
size_of (member.Known w) = 0
size_of (member.Leaf f l) = 0
size_of (member.Part f x) = suc (size (layout_of x))
size_of (member.Maybe f x) = suc (size (layout_of x))
size_of (member.Flag f) = 0
size_of (member.Choice f l c g x y) = suc (size (layout_of x) + size (layout_of y))

pub below : (a b t : ℕ) → b ≡ t → a < b → a < t
below a b t h k = omega arith

-- what an item holds is smaller
module _ (x : Structure) (k : Build) (t : Tag) (l : layout_of x ≡ item_of k) where
  pub node_less : (m : Row) → k ≡ build.Node t m → suc (sizes (row_of m)) < size (layout_of x)
  unfolding size
  node_less m i = let e : size (layout_of x) ≡ suc (suc (sizes (row_of m))) = ap size (l ∙ ap item_of i) in omega arith

  pub list_less : (o : Bool) (n : ℕ) (f : Field) (u : Structure) → k ≡ build.List t o n f u → suc (size (layout_of u)) < size (layout_of x)
  unfolding size
  list_less o n f u i = let e : size (layout_of x) ≡ suc (suc (size (layout_of u))) = ap size (l ∙ ap item_of i) in omega arith

  pub wrap_less : (u : Structure) → k ≡ build.Wrap t u → size (layout_of u) < size (layout_of x)
  unfolding size
  wrap_less u i = let e : size (layout_of x) ≡ suc (size (layout_of u)) = ap size (l ∙ ap item_of i) in omega arith

-- what a member holds is smaller
module _ (m : Member) where
  pub part_less : (f : Field) (x : Structure) → m ≡ member.Part f x → size (layout_of x) < size_of m
  unfolding size_of
  part_less f x i = rw i (omega arith)

  pub maybe_less : (f : Field) (x : Structure) → m ≡ member.Maybe f x → size (layout_of x) < size_of m
  unfolding size_of
  maybe_less f x i = rw i (omega arith)

  pub first_less : (f : Field) (l : Primitive) (c : Content) (g : Field) (x y : Structure) → m ≡ member.Choice f l c g x y → size (layout_of x) < size_of m
  unfolding size_of
  first_less f l c g x y i = rw i (omega arith)

  pub second_less : (f : Field) (l : Primitive) (c : Content) (g : Field) (x y : Structure) → m ≡ member.Choice f l c g x y → size (layout_of y) < size_of m
  unfolding size_of
  second_less f l c g x y i = rw i (omega arith)

-- ---- a row

size_split : (m : Member) (ms : List Member) → size_of m + sizes (members_of ms) ≤ sizes (members_of (m ∷ ms))
unfolding size size_of
size_split member.Blank ms = omega arith
size_split (member.Known w) ms = omega arith
size_split (member.Leaf f l) ms = omega arith
size_split (member.Part f x) ms = omega arith
size_split (member.Maybe f x) ms = omega arith
size_split (member.Flag f) ms = omega arith
size_split (member.Choice f l c g x y) ms = omega arith

-- the members from the k-th on
unfoldable pub from : ℕ → List Member → Members
from k ms = members_of (drop k ms)

pub size-first : (ms : List Member) → sizes (from 0 ms) ≤ sizes (members_of ms)
unfolding from
size-first ms = omega arith

module _ (ms : List Member) (d : Member) (k w : ℕ) (n : length ms ≡ w) (r : k < w) where
  pub one_more_lem : drop k ms ≡ get_or ms k d ∷ drop (k + 1) ms
  one_more_lem = drop-cons ms k d (omega arith) ∙ ap (λ (n : ℕ). get_or ms k d ∷ drop n ms) (sym (add-one k))

  row_less : size_of (get_or ms k d) + sizes (from (k + 1) ms) ≤ sizes (from k ms)
  unfolding from
  row_less = rw one_more_lem (size_split (get_or ms k d) (drop (k + 1) ms))

  -- a member is less than its node
  pub member_smaller : (x : Row) (t : ℕ) → suc (sizes (row_of x)) ≡ t → row_of x ≡ members_of ms → sizes (from k ms) ≤ sizes (members_of ms) → size_of (get_or ms k d) < t
  member_smaller x t h g f = let b = row_less in let q : sizes (row_of x) ≡ sizes (members_of ms) = ap sizes g in omega arith

-- what is left is no more than the whole
pub row_fewer : (ms : List Member) (k w : ℕ) → length ms ≡ w → k < w → sizes (from k ms) ≤ sizes (members_of ms) → sizes (from (k + 1) ms) ≤ sizes (members_of ms)
row_fewer ms k w n r h = let b = row_less ms member.Blank k w n r in omega arith

drop_all : (ms : List Member) (k : ℕ) → length ms ≤ k → drop k ms ≡ []
drop_all [] k h = drop-nil k
drop_all (x ∷ ms) zero h = absurd (omega arith)
drop_all (x ∷ ms) (suc k) h = drop_all ms k (omega arith)

pub none_left : (ms : List Member) (k w : ℕ) → length ms ≡ w → w ≤ k → from k ms ≡ end
unfolding from
none_left ms k w n h = rw (drop_all ms k (omega arith))

-- ---- a loop: what is left after each turn is the whole answer

pub chain : {A : Type 0} (x y z : A) → x ≡ y → y ≡ z → x ≡ z
chain x y z e f = e ∙ f

pub over : {A : Type 0} (x y z : A) → x ≡ y → z ≡ y → z ≡ x
over x y z e f = f ∙ sym e

-- ---- what is called is smaller

pub ruleset smaller = (below, node_less, list_less, wrap_less, part_less, maybe_less, first_less, second_less, member_smaller)
