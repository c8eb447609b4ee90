-- What the functions over the table answer of a sheet, a law for each step. Assumes nothing.
use Rattle.std.specs.Prelude.{◌≡◌, Bool, true, false, List, ◌∷◌, length, get_or, drop, ltb, Ok, Err}
use Rattle.std.proofs.Math.Path.{refl, sym, ap}
use Rattle.std.proofs.Common.{◌∙◌, Fits}
use Prim.Native.Nat.{ℕ, suc, ◌+◌, ◌-◌, ◌*◌, ◌^◌, ◌≤◌, ◌<◌}
use native.Mathlib.Omega.{arith}
use Rattle.std.proofs.Math.Seq.{slice}
use Rattle.std.specs.Int.{w64}
use borrow.Author.Tests.{lt-ltb, le-ltb, eq-eqb, ne_eqb}
use Rattle.terms.specs.declared.Field.{Field}
use Rattle.terms.specs.declared.Reason.TheVariants.{BadSheet}
use Rattle.terms.specs.Answer.{pick, Answer, refused}
use Rattle.terms.specs.Laws.Answer.{never}
use Rattle.terms.specs.declared.Refusal.{Refusal}
use Rattle.heads.specs.Scan.{past_of}
use Rattle.heads.specs.declared.Span.{Span}
use Rattle.tags.specs.declared.Tag.{Tag}
use Rattle.layouts.specs.Layout.{Item, Members}
use Rattle.layouts.specs.Whole.{accept_sheet}
use Rattle.layouts.specs.Scan.{then_step}
use Rattle.layouts.specs.Sheet.{count_bytes}
use Rattle.layouts.specs.SheetScan.{count_at, within_of, list_count_at, leaf_section_at, flag_section_at, times_scan, sheet_scan, sheet_scans, whole_sheet_scan}
use Rattle.layouts.proofs.Laws.Scan.{whole, passed}
use Rattle.layouts.proofs.Laws.SheetScan.{sheet-accept}
use Rattle.primitives.specs.declared.Content.{Content}
use Rattle.primitives.specs.declared.Primitive.{Primitive}
use Rattle.primitives.specs.declared.Word.{Word}
use Rattle.primitives.specs.Primitive.{leaf_of, says}
use Rattle.counts.specs.Laws.{fits_count}
use Rattle.structures.specs.declared.Row.{Row}
use Rattle.structures.specs.declared.Structure.{Structure}
use Rattle.structures.specs.declared.Build.{Build}
use Rattle.structures.specs.declared.Build.TheVariants as build
use Rattle.structures.specs.Structure.{row_of, layout_of, item_of}
use Rattle.rows.specs.declared.Member.{Member}
use Rattle.rows.specs.declared.Member.TheVariants as member
use Rattle.rows.specs.Row.{members_of}
use Rattle.rows.specs.Size.{from, one_more_lem, none_left, over}
use Rattle.sheet_walks.specs.Walk.{member_walk, list_walk}

-- ---- an item

module _ (s : List ℕ) (p e : ℕ) (x : Structure) (k : Build) (l : layout_of x ≡ item_of k) where
  abbrev Reads : Answer ℕ → Type 0
  Reads y = y ≡ sheet_scan (layout_of x) s p e

  pub item_leaf : (c : Primitive) (h : Answer Span) (y : Answer ℕ) → k ≡ build.Leaf c → h ≡ leaf_section_at (leaf_of c) s p e → y ≡ past_of h → Reads y
  unfolding sheet_scan
  item_leaf c h y i g o = rw (l, i, ← g) (o ∙ passed h)

  pub item_row : (t : Tag) (m : Row) (y : Answer ℕ) → k ≡ build.Node t m → y ≡ sheet_scans (row_of m) s p e → Reads y
  unfolding sheet_scan
  item_row t m y i g = g ∙ sym (ap (λ (j : Item). sheet_scan j s p e) (l ∙ ap item_of i))

  pub item_wrap : (t : Tag) (u : Structure) (y : Answer ℕ) → k ≡ build.Wrap t u → y ≡ sheet_scan (layout_of u) s p e → Reads y
  unfolding sheet_scan
  item_wrap t u y i g = g ∙ sym (ap (λ (j : Item). sheet_scan j s p e) (l ∙ ap item_of i))

  module _ (t : Tag) (o : Bool) (n : ℕ) (f : Field) (u : Structure) (i : k ≡ build.List t o n f u) (c : Answer ℕ) (g : c ≡ list_count_at o n s p e) where
    pub list_refused : (e : Refusal) → c ≡ Err e → Reads (Err e)
    unfolding sheet_scan
    list_refused e h = rw (l, i, ← g, h)

    pub list_items : (m : ℕ) (y : Answer ℕ) → c ≡ Ok m → y ≡ list_walk (layout_of u) m s (p + count_bytes) e → Reads y
    unfolding sheet_scan list_walk
    list_items m y h r = r ∙ sym (ap (λ (j : Item). sheet_scan j s p e) (l ∙ ap item_of i) ∙ rw (← g, h) refl)

-- a list that is counted has its count
pub fits_list : (o : Bool) (n : ℕ) (s : List ℕ) (p e : ℕ) (c : Answer ℕ) → c ≡ list_count_at o n s p e → (m : ℕ) → c ≡ Ok m → length s * 1 < 2 ^ 63 → Fits w64 (p + count_bytes)
unfolding list_count_at
fits_list o n s p e c g m h l = go (count_at s p e) refl (sym g ∙ h)
  where
    go : (x : Answer ℕ) → x ≡ count_at s p e → within_of o n p x ≡ Ok m → Fits w64 (p + count_bytes)
    go (Ok j) i f = fits_count s p e (Ok j) i j refl l
    go (Err e) i f = never (cc)

-- ---- a member

module _ (m : Member) (s : List ℕ) (p e : ℕ) where
  abbrev ReadsPart : Answer ℕ → Type 0
  ReadsPart y = y ≡ member_walk m s p e

  pub member_blank : m ≡ member.Blank → ReadsPart (Ok p)
  unfolding member_walk
  member_blank i = rw i refl

  pub member_known : (w : Word) → m ≡ member.Known w → ReadsPart (Ok p)
  unfolding member_walk sheet_scan
  member_known w i = rw i refl

  pub member_leaf : (f : Field) (c : Primitive) (h : Answer Span) (y : Answer ℕ) → m ≡ member.Leaf f c → h ≡ leaf_section_at (leaf_of c) s p e → y ≡ past_of h → ReadsPart y
  unfolding member_walk sheet_scan
  member_leaf f c h y i g o = rw (i, ← g) (o ∙ passed h)

  pub member_part : (f : Field) (x : Structure) (y : Answer ℕ) → m ≡ member.Part f x → y ≡ sheet_scan (layout_of x) s p e → ReadsPart y
  unfolding member_walk
  member_part f x y i g = g ∙ sym (ap (λ (k : Member). member_walk k s p e) i)

  pub member_flag : (f : Field) (y : Answer ℕ) → m ≡ member.Flag f → y ≡ flag_section_at s p e → ReadsPart y
  unfolding member_walk sheet_scan
  member_flag f y i g = rw i g

  module _ (f : Field) (x : Structure) (i : m ≡ member.Maybe f x) (c : Answer ℕ) (g : c ≡ count_at s p e) where
    pub maybe_refused : (e : Refusal) → c ≡ Err e → ReadsPart (Err e)
    unfolding member_walk sheet_scan
    maybe_refused e h = rw (i, ← g, h)

    module _ (n : ℕ) (h : c ≡ Ok n) where
      pub maybe_none : n ≡ 0 → ReadsPart (Ok (p + count_bytes))
      unfolding member_walk sheet_scan pick
      maybe_none k = rw (i, ← g, h, eq-eqb n 0 k)

      pub maybe_one : (y : Answer ℕ) → n ≡ 1 → y ≡ sheet_scan (layout_of x) s (p + count_bytes) e → ReadsPart y
      unfolding member_walk sheet_scan pick
      maybe_one y k r = let z : (n ≡ 0 → ⊥) = λ q. omega arith in rw (i, ← g, h, ne_eqb n 0 z, eq-eqb n 1 k) r

      pub maybe_more : (n ≡ 0 → ⊥) → (n ≡ 1 → ⊥) → ReadsPart (refused BadSheet p)
      unfolding member_walk sheet_scan pick
      maybe_more z k = rw (i, ← g, h, ne_eqb n 0 z, ne_eqb n 1 k)

  module _ (f : Field) (c : Primitive) (w : Content) (g : Field) (x u : Structure) (i : m ≡ member.Choice f c w g x u) (h : Answer Span) (j : h ≡ leaf_section_at (leaf_of c) s p e) where
    pub choice_refused : (r : Refusal) → h ≡ Err r → ReadsPart (Err r)
    unfolding member_walk sheet_scan
    choice_refused r b = rw (i, ← j, b) refl

    module _ (v : Span) (b : h ≡ Ok v) (t : Bool) (o : t ≡ says w (slice v.start v.end s)) where
      pub choice_first : (y : Answer ℕ) → t ≡ true → y ≡ sheet_scan (layout_of x) s v.end e → ReadsPart y
      unfolding member_walk sheet_scan pick
      choice_first y k q = rw (i, ← j, b, ← o, k) q

      pub choice_second : (y : Answer ℕ) → t ≡ false → y ≡ sheet_scan (layout_of u) s v.end e → ReadsPart y
      unfolding member_walk sheet_scan pick
      choice_second y k q = rw (i, ← j, b, ← o, k) q

-- ---- a row

-- a row is its first member, then the rest
row_split : (m : Member) (ms : List Member) (s : List ℕ) (p e : ℕ) → sheet_scans (members_of (m ∷ ms)) s p e ≡ (then_step (member_walk m s p e) λ q. sheet_scans (members_of ms) s q e)
unfolding member_walk sheet_scan
row_split member.Blank ms s p e = refl
row_split (member.Known w) ms s p e = refl
row_split (member.Leaf f l) ms s p e = refl
row_split (member.Part f x) ms s p e = refl
row_split (member.Maybe f x) ms s p e = refl
row_split (member.Flag f) ms s p e = refl
row_split (member.Choice f l c g x y) ms s p e = refl

module _ (ms : List Member) (d : Member) (k w : ℕ) (n : length ms ≡ w) (r : k < w) (s : List ℕ) (p e : ℕ) (x : Answer ℕ) (g : x ≡ member_walk (get_or ms k d) s p e) where
  row_step : sheet_scans (from k ms) s p e ≡ (then_step x λ q. sheet_scans (from (k + 1) ms) s q e)
  unfolding from
  row_step = rw (one_more_lem ms d k w n r, row_split (get_or ms k d) (drop (k + 1) ms) s p e, ← g) refl

  pub row_refused : (f : Refusal) → x ≡ Err f → Err f ≡ sheet_scans (from k ms) s p e
  row_refused f h = rw (row_step, h) refl

  pub row_next : (q : ℕ) → x ≡ Ok q → sheet_scans (from k ms) s p e ≡ sheet_scans (from (k + 1) ms) s q e
  row_next q h = rw (row_step, h) refl

pub row_over : (ms : List Member) (s : List ℕ) (p e k w : ℕ) → length ms ≡ w → w ≤ k → Ok p ≡ sheet_scans (from k ms) s p e
unfolding sheet_scan
row_over ms s p e k w n h = rw (none_left ms k w n h)

pub row_first : (ms : List Member) (s : List ℕ) (p e : ℕ) → sheet_scans (members_of ms) s p e ≡ sheet_scans (from 0 ms) s p e
unfolding from
row_first ms s p e = refl

pub row-whole : (x : Row) (ms : List Member) (s : List ℕ) (a e k p : ℕ) (y : Answer ℕ) → row_of x ≡ members_of ms → sheet_scans (members_of ms) s a e ≡ sheet_scans (from k ms) s p e
    → y ≡ sheet_scans (from k ms) s p e → y ≡ sheet_scans (row_of x) s a e
row-whole x ms s a e k p y h g f = f ∙ sym g ∙ ap (λ (r : Members). sheet_scans r s a e) (sym h)

-- ---- a list's items, of which `k` of `n` were read

module _ (i : Item) (s : List ℕ) (e n k p : ℕ) where
  module _ (x : Answer ℕ) (h : k < n) (g : x ≡ sheet_scan i s p e) where
    many_step : list_walk i (n - k) s p e ≡ (then_step x λ q. list_walk i (n - (k + 1)) s q e)
    unfolding list_walk times_scan
    many_step = let z : n - k ≡ suc (n - (k + 1)) = omega arith in ap (λ (m : ℕ). times_scan (λ q. sheet_scan i s q e) m p) z ∙ rw (← g) refl

    pub many_bad : (r : Refusal) → x ≡ Err r → Err r ≡ list_walk i (n - k) s p e
    many_bad r j = rw (many_step, j) refl

    pub many_on : (q : ℕ) → x ≡ Ok q → list_walk i (n - k) s p e ≡ list_walk i (n - (k + 1)) s q e
    many_on q j = rw (many_step, j) refl

  pub many_end : n ≤ k → Ok p ≡ list_walk i (n - k) s p e
  unfolding list_walk times_scan
  many_end h = let z : n - k ≡ 0 = omega arith in rw z refl

-- ---- a whole sheet

module _ (r : Members) (s : List ℕ) (x : Answer ℕ) (g : x ≡ sheet_scans r s 0 (length s)) where
  whole_is : (then_step x λ q. pick (ltb q (length s)) (refused BadSheet q) (Ok (length s))) ≡ whole (length s) (accept_sheet r s)
  unfolding whole_sheet_scan
  whole_is = rw g (sheet-accept r s)

  pub sheet_refused : (f : Refusal) → x ≡ Err f → Err f ≡ whole (length s) (accept_sheet r s)
  sheet_refused f h = rw (← whole_is, h) refl

  module _ (q : ℕ) (h : x ≡ Ok q) where
    pub sheet_left : q < length s → refused BadSheet q ≡ whole (length s) (accept_sheet r s)
    unfolding pick
    sheet_left k = rw (← whole_is, h, lt-ltb q (length s) k)

    pub sheet-whole : length s ≤ q → Ok (length s) ≡ whole (length s) (accept_sheet r s)
    unfolding pick
    sheet-whole k = rw (← whole_is, h, le-ltb q (length s) k)

-- ---- what each function's answers are found by

pub ruleset item-steps = (item_leaf, item_row, item_wrap, list_refused, list_items)

pub ruleset list_steps = (over, many_bad, many_end)

pub ruleset member-steps = (member_blank, member_known, member_leaf, member_part, member_flag, maybe_refused, maybe_none, maybe_one, maybe_more, choice_refused, choice_first, choice_second)

pub ruleset row-steps = (row-whole, row_refused, row_over)
