-- Integers as values. Assumes nothing.
use Rattle.std.specs.Prelude.{◌≡◌, ℕ, Bool, ◌&&◌, List, [], ◌∷◌, length, T, ℤ, Option, Ok, Err, Some, None}
use Rattle.std.proofs.Math.Path.{refl, ap}
use Rattle.std.proofs.Common.{sym, ◌∙◌}
use Rattle.std.proofs.Math.Option.{some}
use Rattle.std.proofs.Math.Option as Maybe
use Rattle.std.proofs.Math.Seq.{take-length}
use Rattle.std.specs.Borrow.{Bor}
use Rattle.terms.specs.declared.Field.{Field}
use Rattle.terms.specs.Numbers.{done}
use Rattle.terms.specs.Answer.{Res, good, Told, gives}
use Rattle.terms.specs.Laws.Answer.{is_true, pick_yes}
use Rattle.terms.specs.declared.Refusal.{Refusal}
use Rattle.contents.specs.Integer.{well_formed, value}
use Rattle.numbers.specs.Number.{number_of, number_at}
use Rattle.layouts.specs.Fields.{Entry, is_field}
use Rattle.layouts.proofs.Laws.Fields.{first_holds}
use Rattle.records.specs.declared.Record.{Record}
use Rattle.records.specs.Handing.{layout_of, seek, tell, told_place, is_one_of, is_among, integer_names, value_answer, told_part, told_number}
use Rattle.records.specs.Part.{PartOf}
use Rattle.records.specs.Laws.Handing.{one_of_alike, asked_name, WellFormed, integers_well}
use Rattle.records.specs.declared.Part.{Part}
use Rattle.records.specs.Found.{Found}
use Rattle.fields.specs.Handed.{within}
use Rattle.fields.specs.Laws.{is-there, is_absent, refused_told, sought_in, part_bytes}

-- the number of a content that holds one, read from its first byte to its last
number-whole : (w : List ℕ) (n : Option ℤ) → n ≡ number_at w 0 (length w) → T (well_formed w) → n ≡ Some (value w)
unfolding number_at number_of
number-whole w n h t = h ∙ ap number_of (take-length w) ∙ pick_yes (well_formed w) _ _ t

-- one of the names is asked for by its name
pub among : (names : List Field) (f : Field) (k : ℕ) → T (is_one_of names f) → is_among names f k ≡ is_field f k
among names f k t = let on : Bool → Entry → Bool = λ b x. b && is_field f k x in ap on (is_true (is_one_of names f) t)

-- an integer of a record
module _ (x : Record) (f : Field) (i : T (is_one_of integer_names f)) (s : Bor (List ℕ)) (p : Found Part) (e : told_part p ≡ tell told_place (seek (layout_of x) (is_field f 0) s.now)) where
  abbrev Tells : Found ℤ → Type 0
  Tells y = told_number y ≡ value_answer (layout_of x) f s.now

  abbrev integer_told : Entry → Told
  integer_told y = gives done (value y.bytes ∷ [])

  told_of : (o : Res (Maybe.Option Entry)) → seek (layout_of x) (is_field f 0) s.now ≡ o → value_answer (layout_of x) f s.now ≡ tell integer_told o
  told_of o h = ap (λ (q : Entry → Bool). tell integer_told (seek (layout_of x) q s.now)) (among integer_names f 0 i) ∙ ap (tell integer_told) h

  well : (y : Entry) → seek (layout_of x) (is_field f 0) s.now ≡ good (some y) → T (well_formed y.bytes)
  well y h =
      let (v, b, o, a) = sought_in (layout_of x) (is_field f 0) s.now y h in
      first_holds WellFormed (is_field f 0) _ y (integers_well x v o) a (rw (one_of_alike integer_names f y.name (asked_name f 0 y a.4)) at i)

  pub number-there : (a : Part) (z : Bor (List ℕ)) (n : Option ℤ) → p ≡ Ok (Some a) → PartOf s z (within (length s.now) (a.start, a.length)) → n ≡ number_at z.now 0 (length z.now) → Tells (Ok n)
  number-there a z n h k m = let (u, g, b, c) = is-there _ p e a h in go u g b c
    where
      go : (u : Entry) → seek (layout_of x) (is_field f 0) s.now ≡ good (some u) → u.place ≡ a.start → length u.bytes ≡ a.length → Tells (Ok n)
      go u g b c =
          let w = part_bytes s z (layout_of x) (is_field f 0) u g (rw (← b, ← c) at k) in
          let v : n ≡ Some (value u.bytes) = number-whole u.bytes n (rw w at m) (well u g) in
          ap (λ (y : Option ℤ). told_number (Ok y)) v ∙ sym (told_of _ g)

  pub number-absent : p ≡ Ok None → Tells (Ok None)
  number-absent h = sym (told_of _ (is_absent _ p e h))

  pub number_refused : (r : Refusal) → p ≡ Err r → Tells (Err r)
  number_refused r h = refused_told _ p e r h integer_told ∙ sym (told_of _ refl)
