-- What is told of an accepted record's fields: of the first that is asked for, absent exactly where there is none. Assumes nothing.
use Rattle.std.specs.Prelude.{◌≡◌, ◌⊎◌, ℕ, Bool, true, false, not, ◌||◌, T}
use Rattle.std.proofs.Math.Path.{refl}
use Rattle.std.proofs.Common.{sym, ◌∙◌, T_not, eqb→eq}
use Rattle.std.proofs.Math.Logic.{inl, inr}
use Rattle.std.proofs.Math.Option.{Option, none, some}
use mathlib.Core.List.{List, [], ◌∷◌}
use Rattle.std.specs.Borrow.{Bor}
use Rattle.terms.specs.declared.Reason.{Reason}
use Rattle.terms.specs.declared.Field.{Field}
use Rattle.terms.specs.declared.Field.TheVariants.{ListedCertificate, ListedDigest}
use Rattle.terms.specs.Names.{code, same_name}
use Rattle.terms.specs.Numbers.{absent}
use Rattle.terms.specs.Answer.{good, fault, bind, same, Told, told_none, refusal}
use Rattle.terms.specs.Laws.Answer.{and_l, and_r, same_eq}
use Rattle.contents.specs.Content.{fine}
use Rattle.contents.specs.Integer.{well_formed}
use Rattle.contents.specs.Rules.{integer_rule}
use Rattle.contents.specs.Leaves.{Leaf, Holding, bytes, number, rule_of}
use Rattle.contents.proofs.Laws.Leaves.{by_ask}
use Rattle.layouts.specs.Layout.{Members, Values, Oks, All}
use Rattle.layouts.specs.Fields.{Entry, fields, Stands, is_field, first}
use Rattle.layouts.proofs.Laws.Fields.{stands_cut, None, First, Sought, first-sought, first_holds}
use Rattle.layouts.proofs.Laws.Each.{passes, passes_all, fields_pass}
use Rattle.records.specs.declared.Record.{Record}
use Rattle.records.specs.declared.Record.TheVariants.{Seal, Signature}
use Rattle.records.specs.Part.{PartOf, Lies}
use Rattle.records.specs.Handing.{layout_of, integer_names, read_record, fields_in, seek, tell, handed_out, is_one_of, field_answer, is_listed, match_answer, value_answer, critical_answer, count_answer}

-- told of the first that passes, whose bytes stand at its place; absent where none passes
abbrev pub Tells : List ℕ → List Entry → (Entry → Bool) → (Entry → Told) → Told → Type 0
Tells w xs p t y = ((x : Entry) × First p xs x × Stands w x × (y ≡ t x)) ⊎ (None p xs × (y ≡ told_none absent))

pub told-first : (r : Members) (w : List ℕ) (v : Values r) → read_record r w ≡ good v → All (Stands w) (fields r v) → (p : Entry → Bool) (t : Entry → Told) → Tells w (fields r v) p t (tell t (seek r p w))
unfolding seek bind
told-first r w v e h p t = rw e (go (first p (fields r v)) refl (first-sought p (fields r v)))
  where
    go : (o : Option Entry) → first p (fields r v) ≡ o → Sought p (fields r v) o → Tells w (fields r v) p t (tell t (good (first p (fields r v))))
    go none q n = inr (n, rw q)
    go (some x) q f = inl (x, f, first_holds (Stands w) p (fields r v) x h f, rw q)

pub fields_in_lem : (r : Members) (w : List ℕ) (v : Values r) → read_record r w ≡ good v → fields_in r w ≡ fields r v
fields_in_lem r w v e = rw e

-- an entry that equals what was given has its bytes
pub listed_is : (given : List ℕ) (x : Entry) → T (is_listed given x) → x.bytes ≡ given
unfolding is_listed
listed_is given x t = sym (same_eq given x.bytes (and_r (is_one_of (ListedCertificate ∷ ListedDigest ∷ []) x.name) (same given x.bytes) t))

pub refused_told : (r : Members) (w : List ℕ) (n : Reason) (p : ℕ) → read_record r w ≡ fault n p → (f : Field) (k : ℕ) (given : List ℕ)
    → (field_answer r f k w ≡ refusal n p) × (match_answer r given w ≡ refusal n p) × (value_answer r f w ≡ refusal n p) × (critical_answer r f k w ≡ refusal n p) × (count_answer r f w ≡ refusal n p)
unfolding seek bind
refused_told r w n p e f k given = (rw e, rw e, rw e, rw e, rw e)

-- ---- a part that is handed out

module _ (r : Members) (s z : Bor (List ℕ)) (q : Entry → Bool) (h : PartOf s z (handed_out (seek r q s.now))) where
  -- of a refused record no bytes, at its start
  pub handed_refused : (n : Reason) (p : ℕ) → read_record r s.now ≡ fault n p → Lies s z [] 0
  unfolding seek bind
  handed_refused n p e = let k = rw e at h in (k.holds, k.lies)

  -- else the first field that passes, and where none does no bytes, at the record's start
  pub handed_first : (v : Values r) → read_record r s.now ≡ good v → All (Stands s.now) (fields r v)
      → ((x : Entry) × First q (fields r v) x × Lies s z x.bytes x.place) ⊎ (None q (fields r v) × Lies s z [] 0)
  unfolding seek bind
  handed_first v e st = go (first q (fields r v)) refl (first-sought q (fields r v)) (rw e at h)
    where
      go : (o : Option Entry) → first q (fields r v) ≡ o → Sought q (fields r v) o → PartOf s z (handed_out (good (first q (fields r v))))
          → ((x : Entry) × First q (fields r v) x × Lies s z x.bytes x.place) ⊎ (None q (fields r v) × Lies s z [] 0)
      go none i n k = let k' = rw i at k in inr (n, (k'.holds, k'.lies))
      go (some x) i f k = let k' = rw i at k in inl (x, f, (k'.holds ∙ stands_cut s.now x (first_holds (Stands s.now) q (fields r v) x st f), k'.lies))

-- ---- names

-- names of one number are of the same names
pub one_of_alike : (names : List Field) (f g : Field) → code f ≡ code g → is_one_of names f ≡ is_one_of names g
one_of_alike [] f g e = refl
one_of_alike (x ∷ xs) f g e = rw (e, one_of_alike xs f g e)

-- a field that is asked for has a name of the same number
pub asked_name : (f : Field) (k : ℕ) (x : Entry) → T (is_field f k x) → code f ≡ code x.name
unfolding is_field
asked_name f k x t = eqb→eq (code f) (code x.name) (and_l (same_name f x.name) _ t)

-- ---- integers

-- a value that is an integer
abbrev is_number : Holding → Bool
is_number (bytes rule) = false
is_number (number allowed) = true

-- under the names of integers stand integers
abbrev as_number : Field → Leaf → Bool
as_number f l = not (is_one_of integer_names f) || is_number l.holds

abbrev no_number : Field → Bool
no_number f = not (is_one_of integer_names f)

integers_named : (x : Record) → T (passes_all as_number no_number (layout_of x))
unfolding passes
integers_named Seal = tt
integers_named Signature = tt

-- each of them in the form of one
abbrev pub WellFormed : Entry → Type 0
WellFormed e = T (is_one_of integer_names e.name) → T (well_formed e.bytes)

number_well : (a : Bool) (h : Holding) (v : List ℕ) → T (not a || is_number h) → T a → rule_of h v ≡ fine → T (well_formed v)
unfolding integer_rule
number_well true (bytes rule) v t i o = absurd t
number_well true (number allowed) v t i o = by_ask (well_formed v) _ _ o λ w q. w
number_well false h v t i o = absurd i

pub integers_well : (x : Record) (v : Values (layout_of x)) → Oks (layout_of x) v → All WellFormed (fields (layout_of x) v)
integers_well x v o =
    fields_pass as_number no_number WellFormed
    (λ f l t u r k b i. number_well (is_one_of integer_names f) l.holds u t i r)
    (λ f t k b y n i. absurd (T_not (is_one_of integer_names f) t i))
    (layout_of x) (integers_named x) v o
