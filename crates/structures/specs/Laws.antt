-- The tag of a structure, by its build; and that each row has a layout of its own. Assumes nothing.
use Rattle.std.specs.Prelude.{◌≡◌, refl, ℕ, Bool, List, [], ◌∷◌, eqb}
use Rattle.std.proofs.Common.{sym, ap, ◌∙◌}
use Rattle.std.proofs.Math.Option.{Option, none, some}
use Rattle.terms.specs.declared.Field.{Field}
use Rattle.terms.specs.Names.{code, names_count}
use Rattle.terms.specs.Answer.{pick}
use Rattle.tags.specs.declared.Tag.{Tag}
use Rattle.tags.specs.Tag.{tag_byte}
use Rattle.layouts.specs.Layout.{Members, end, ◌▸◌, known, one, maybe, flag, choose, tag_of}
use Rattle.primitives.specs.declared.Primitive.{Primitive}
use Rattle.primitives.specs.Primitive.{leaf_of}
use Rattle.structures.specs.declared.Row.{Row}
use Rattle.structures.specs.declared.Row.TheVariants.{Signature, SignedPart, Seal, SealInformation, Header, Property, Digest, Picture, SealCustomItem, SignedCustomItem}
use Rattle.structures.specs.declared.Structure.{Structure}
use Rattle.structures.specs.declared.Build.{Build}
use Rattle.structures.specs.declared.Build.TheVariants as build
use Rattle.structures.specs.Structure.{row_of, layout_of, item_of}

module _ (x : Structure) (b : Build) (t : Tag) (l : layout_of x ≡ item_of b) where
  pub tag_leaf : (p : Primitive) → b ≡ build.Leaf p → tag_byte t ≡ (leaf_of p).tag → tag_byte t ≡ tag_of (layout_of x)
  tag_leaf p i g = rw (l, i) g

  pub tag_node : (r : Row) → b ≡ build.Node t r → tag_byte t ≡ tag_of (layout_of x)
  tag_node r i = rw (l, i)

  pub tag_list : (o : Bool) (n : ℕ) (f : Field) (y : Structure) → b ≡ build.List t o n f y → tag_byte t ≡ tag_of (layout_of x)
  tag_list o n f y i = rw (l, i)

  pub tag_wrap : (y : Structure) → b ≡ build.Wrap t y → tag_byte t ≡ tag_of (layout_of x)
  tag_wrap y i = rw (l, i)

-- ---- a row by its layout

-- the number of the first name in a layout
first_in : Members → ℕ
first_in end = names_count
first_in (known w ▸ r) = first_in r
first_in (one f i ▸ r) = code f
first_in (maybe f i ▸ r) = code f
first_in (flag f ▸ r) = code f
first_in (choose f l t g i j ▸ r) = code f

-- the first of some rows whose layout begins with a name
row_in : List Row → ℕ → Option Row
row_in [] n = none
row_in (x ∷ xs) n = pick (eqb n (first_in (row_of x))) (some x) (row_in xs n)

rows : List Row
rows = Signature ∷ SignedPart ∷ Seal ∷ SealInformation ∷ Header ∷ Property ∷ Digest ∷ Picture ∷ SealCustomItem ∷ SignedCustomItem ∷ []

row_back : (x : Row) → row_in rows (first_in (row_of x)) ≡ some x
unfolding first_in row_in rows pick
row_back x =
    elim x as (λ k. row_in rows (first_in (row_of k)) ≡ some k) [ Signature ↦ refl | SignedPart ↦ refl | Seal ↦ refl | SealInformation ↦ refl | Header ↦ refl | Property ↦ refl | Digest ↦ refl | Picture ↦ refl | SealCustomItem ↦ refl | SignedCustomItem ↦ refl ]

pub row_one : (x y : Row) → row_of x ≡ row_of y → x ≡ y
row_one x y e = let f : some x ≡ some y = sym (row_back x) ∙ ap (λ (r : Members). row_in rows (first_in r)) e ∙ row_back y in cc

-- by the case of an enum
pub built : (x y : Structure) (b : Build) → x ≡ y → layout_of y ≡ item_of b → layout_of x ≡ item_of b
built x y b i h = rw i h
