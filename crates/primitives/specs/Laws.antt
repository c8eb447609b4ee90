-- Each name of a primitive item stands for a leaf of its own. Assumes nothing.
use Rattle.std.specs.Prelude.{◌≡◌, refl, ℕ, List, [], ◌∷◌}
use Rattle.std.proofs.Common.{sym, ap, ◌∙◌}
use Rattle.std.proofs.Math.Option.{Option, none, some}
use Rattle.terms.specs.Answer.{pick, bind, need, enough, same, bit}
use Rattle.terms.specs.Digits.{number_from}
use Rattle.contents.specs.Content.{ask, passes}
use Rattle.contents.specs.Integer.{shortest, well_formed, value}
use Rattle.contents.specs.Text.{within, starts, follows, text_from, parts_from, is_identifier}
use Rattle.contents.specs.Time.{is_digit, part_from, time_from, time_check, time_rule}
use Rattle.contents.specs.Rules.{integer_rule, string_rule, octets_rule, identifier_rule, boolean_rule, also, only_rule}
use Rattle.contents.specs.Leaves.{Leaf, rule_of}
use Rattle.primitives.specs.declared.Primitive.{Primitive}
use Rattle.primitives.specs.declared.Primitive.TheVariants.{Octets, AnyOctets, Bits, Ia5, AnyIa5, AnyPrintable, AnyUtf8, Identifier, Time, Integer, ListKind, Millimetres, Critical, HeaderName, Version}
use Rattle.primitives.specs.Primitive.{leaf_of, is_number}

-- what tells a leaf from the others: its tag, whether it is a number, and which of three contents it takes
marks : Leaf → List ℕ
marks l =
    l.tag ∷ bit (is_number l.holds)
    ∷ bit (passes (rule_of l.holds []))
    ∷ bit (passes (rule_of l.holds (0x04 ∷ [])))
    ∷ bit (passes (rule_of l.holds (0xFF ∷ [])))
    ∷ []

-- the first of some items that has these marks
item_in : List Primitive → List ℕ → Option Primitive
item_in [] x = none
item_in (p ∷ ps) x = pick (same x (marks (leaf_of p))) (some p) (item_in ps x)

items : List Primitive
items = Octets ∷ AnyOctets ∷ Bits ∷ Ia5 ∷ AnyIa5 ∷ AnyPrintable ∷ AnyUtf8 ∷ Identifier ∷ Time ∷ Integer ∷ ListKind ∷ Millimetres ∷ Critical ∷ HeaderName ∷ Version ∷ []

item_back : (p : Primitive) → item_in items (marks (leaf_of p)) ≡ some p
unfolding marks item_in items pick bind need enough same number_from ask passes shortest well_formed value within starts follows text_from parts_from is_identifier is_digit part_from time_from time_check time_rule integer_rule string_rule octets_rule identifier_rule boolean_rule also only_rule
item_back p =
    elim p as (λ k. item_in items (marks (leaf_of k)) ≡ some k) [ Octets ↦ refl | AnyOctets ↦ refl | Bits ↦ refl | Ia5 ↦ refl | AnyIa5 ↦ refl | AnyPrintable ↦ refl | AnyUtf8 ↦ refl | Identifier ↦ refl | Time ↦ refl | Integer ↦ refl | ListKind ↦ refl | Millimetres ↦ refl | Critical ↦ refl | HeaderName ↦ refl | Version ↦ refl ]

pub leaf_one : (p q : Primitive) → leaf_of p ≡ leaf_of q → p ≡ q
leaf_one p q e = let f : some p ≡ some q = sym (item_back p) ∙ ap (λ (l : Leaf). item_in items (marks l)) e ∙ item_back q in cc
