-- What is asked with numbers: the record by its kind, a field by its number (03, 42). Assumes nothing.
use Rattle.std.specs.Prelude.{ℕ, Bool, false, ◌||◌, List, [], ◌∷◌, eqb, ltb}
use Rattle.terms.specs.declared.Field.TheVariants.{SealType, ListKind, Width, Height, CertificateList, SealCustomData, SealCustomCritical, SignedCustomData, SignedCustomCritical}
use Rattle.terms.specs.Names.{code, name_of, names_count}
use Rattle.terms.specs.Numbers.{absent}
use Rattle.terms.specs.Answer.{pick, Told, told_none}
use Rattle.layouts.specs.Layout.{Members}
use Rattle.layouts.specs.Fields.{is_field}
use Rattle.records.specs.declared.Record.{Record}
use Rattle.records.specs.declared.Record.TheVariants.{Seal, Signature}
use Rattle.records.specs.Handing.{layout_of, seek, tell, told_place, value_answer, critical_answer, count_answer, match_answer}

-- 0 a seal, every other number a signature record
unfoldable pub kind_of : ℕ → Record
kind_of n = pick (eqb n 0) Seal Signature

abbrev pub layout_by : ℕ → Members
layout_by n = layout_of (kind_of n)

-- a number is one of some
unfoldable pub is_among : List ℕ → ℕ → Bool
is_among [] n = false
is_among (x ∷ xs) n = eqb n x || is_among xs n

-- an answer for the numbers that have one, absent for every other
unfoldable pub only_if : Bool → Told → Told
only_if b t = pick b t (told_none absent)

-- where a field lies, by its number and its index in a list
unfoldable pub asked_field : ℕ → ℕ → ℕ → List ℕ → Told
asked_field kind n k w = only_if (ltb n names_count) (tell told_place (seek (layout_by kind) (is_field (name_of n) k) w))

-- where the matching entry lies
unfoldable pub asked_match : ℕ → List ℕ → List ℕ → Told
asked_match kind given w = match_answer (layout_by kind) given w

-- an integer, by its number
abbrev pub integer_numbers : List ℕ
integer_numbers = code SealType ∷ code ListKind ∷ code Width ∷ code Height ∷ []

unfoldable pub asked_value : ℕ → ℕ → List ℕ → Told
asked_value kind n w = only_if (is_among integer_numbers n) (value_answer (layout_by kind) (name_of n) w)

-- critical, by its number in the records that have it
abbrev pub critical_numbers : Record → List ℕ
critical_numbers Seal = code SealCustomCritical ∷ []
critical_numbers Signature = code SealCustomCritical ∷ code SignedCustomCritical ∷ []

unfoldable pub asked_critical : Record → ℕ → ℕ → List ℕ → Told
asked_critical x n k w = only_if (is_among (critical_numbers x) n) (critical_answer (layout_of x) (name_of n) k w)

-- how many items a list has, by its number in the records that have it
abbrev pub list_numbers : Record → List ℕ
list_numbers Seal = code CertificateList ∷ code SealCustomData ∷ []
list_numbers Signature = code CertificateList ∷ code SealCustomData ∷ code SignedCustomData ∷ []

unfoldable pub asked_count : Record → ℕ → List ℕ → Told
asked_count x n w = only_if (is_among (list_numbers x) n) (count_answer (layout_of x) (name_of n) w)
