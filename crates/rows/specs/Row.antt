-- What a row of the code's table stands for, member by member. Assumes nothing.
use Rattle.std.specs.Prelude.{ℕ, List, [], ◌∷◌}
use Rattle.terms.specs.declared.Field.{Field}
use Rattle.layouts.specs.Layout.{leaf, Members, end, ◌▸◌, Member as Part, known, one, maybe, flag, choose}
use Rattle.primitives.specs.declared.Primitive.{Primitive}
use Rattle.primitives.specs.declared.Content.{Content}
use Rattle.primitives.specs.Primitive.{leaf_of, known_of, says}
use Rattle.structures.specs.declared.Structure.{Structure}
use Rattle.structures.specs.Structure.{layout_of}
use Rattle.rows.specs.declared.Member.{Member}
use Rattle.rows.specs.declared.Member.TheVariants as member

-- how many members a row has, blanks included
abbrev pub row_width : ℕ
row_width = 6

-- a primitive item, and the item that its content decides on
abbrev pub choice_of : Field → Primitive → Content → Field → Structure → Structure → Part
choice_of f p c g x y = choose f (leaf_of p) (says c) g (layout_of x) (layout_of y)

abbrev pub members_of : List Member → Members
members_of [] = end
members_of (member.Blank ∷ ms) = members_of ms
members_of (member.Known w ∷ ms) = known (known_of w) ▸ members_of ms
members_of (member.Leaf f p ∷ ms) = one f (leaf (leaf_of p)) ▸ members_of ms
members_of (member.Part f x ∷ ms) = one f (layout_of x) ▸ members_of ms
members_of (member.Maybe f x ∷ ms) = maybe f (layout_of x) ▸ members_of ms
members_of (member.Flag f ∷ ms) = flag f ▸ members_of ms
members_of (member.Choice f p c g x y ∷ ms) = choice_of f p c g x y ▸ members_of ms
