-- A run of records reads back exactly its list, and every accepted run is such a list. Assumes nothing.
use Rattle.std.specs.Prelude.{◌≡◌, T, ltb}
use Rattle.std.proofs.Math.Path.{refl, sym, ap, subst}
use Rattle.std.proofs.Common.{◌∙◌, drop-cons, lt→ltb}
use Prim.Native.Nat.{ℕ, suc, zero, ◌+◌, ◌-◌, ◌≤◌, ◌<◌}
use native.Mathlib.Omega.{arith}
use Rattle.std.proofs.Math.Option.{none, some}
use mathlib.Core.List.{List, [], ◌∷◌, ◌++◌, map, append_assoc, append-nil}
use lib.ListN.{length, take, drop, replicate, length-append}
use Rattle.std.proofs.Math.Seq.{take_at, drop_at}
use Rattle.terms.specs.declared.Reason.{Reason}
use Rattle.terms.specs.Numbers.{largest_record, done, run_end}
use Rattle.terms.specs.Answer.{Res, good, fault, Got, got, bind, Told, told_one, told_two, told_none}
use Rattle.terms.specs.Laws.Answer.{never, pick_yes, by_bind}
use Rattle.heads.specs.Head.{forms, tlv, octets}
use Rattle.heads.proofs.Laws.Head.{length-tlv}
use Rattle.layouts.specs.Layout.{Members, Values, All, each, encodes}
use Rattle.layouts.specs.Whole.{sequence, record_of, Allowed, record_at}
use Rattle.layouts.proofs.Laws.Reading.{clears}
use Rattle.layouts.proofs.Laws.Whole.{record_at_back, record_at-there}
use Rattle.runs.specs.Run.{run_of, Ran, whole, stopped, and_then, onward, run_from, read_run, told_ran, run_answer, Reader, here_in, here_at, at, made, top, one_more, step_after, step_answer, step_part, refusal_after}

-- a value whose record is accepted
abbrev Accepted : (r : Members) → Values r → Type 0
Accepted r v = Allowed largest_record r v

module _ (r : Members) where
  -- a record has a byte
  pub record_some : (v : Values r) → 1 ≤ length (record_of r v)
  record_some v = omega (arith, length-tlv sequence (encodes r v))

  record_cons : (v : Values r) → (x : ℕ) × (y : List ℕ) × (record_of r v ≡ x ∷ y)
  unfolding tlv
  record_cons v = (sequence, octets forms (length (encodes r v)) ++ encodes r v, refl)

  run_some : (vs : List (Values r)) → length vs ≤ length (run_of r vs)
  unfolding each
  run_some [] = omega arith
  run_some (v ∷ vs) = omega (arith, record_some v, run_some vs, length-append (record_of r v) (run_of r vs))

  -- ---- what is written is read back

  run_from-there : T (clears r) → (k : ℕ) (vs : List (Values r)) → All (Accepted r) vs → length vs ≤ k → (b : ℕ) → run_from k r (run_of r vs) b ≡ whole vs
  unfolding run_from each onward and_then
  run_from-there c zero [] ok h b = refl
  run_from-there c zero (v ∷ vs) ok h b = absurd (omega arith)
  run_from-there c (suc k) [] ok h b = refl
  run_from-there c (suc k) (v ∷ vs) ok h b =
      cons_read k (record_of r v ++ run_of r vs) b (record_cons v).0 ((record_cons v).1 ++ run_of r vs) (ap (λ (y : List ℕ). y ++ run_of r vs) (record_cons v).2)
      ∙ rw (record_at-there largest_record r c (omega arith) v ok.0.0 ok.0.1 (run_of r vs) b, run_from-there c k vs ok.1 (omega arith) (b + length (record_of r v)))
    where
      cons_read : (k : ℕ) (w : List ℕ) (b x : ℕ) (y : List ℕ) → w ≡ x ∷ y → run_from (suc k) r w b ≡ (onward (record_at largest_record r w b) λ a. and_then a.value (run_from k r a.rest a.after))
      cons_read k w b x y e = rw e

  -- a run of encoded records reads back exactly its list
  pub run_there : T (clears r) → (vs : List (Values r)) → All (Accepted r) vs → read_run r (run_of r vs) ≡ whole vs
  unfolding read_run
  run_there c vs ok = run_from-there c (length (run_of r vs)) vs ok (run_some vs) 0

  -- two different lists never give the same bytes
  pub run_injective : T (clears r) → (us vs : List (Values r)) → All (Accepted r) us → All (Accepted r) vs → run_of r us ≡ run_of r vs → us ≡ vs
  run_injective c us vs p q e =
      let g : whole us ≡ whole vs = sym (run_there c us p) ∙ ap (read_run r) e ∙ run_there c vs q in cc

  -- ---- what is read was written so

  whole_cons : (a : Values r) (x : Ran (Values r)) (vs : List (Values r)) → and_then a x ≡ whole vs → (us : List (Values r)) × (x ≡ whole us) × (a ∷ us ≡ vs)
  unfolding and_then
  whole_cons a (whole us) vs e = (us, refl, let q : a ∷ us ≡ vs = cc in q)
  whole_cons a (stopped us n p) vs e = never (cc)

  by_onward {ℓ} : {X : Type ℓ} (x : Res (Got (Values r))) (k : Got (Values r) → Ran (Values r)) (vs : List (Values r)) → onward x k ≡ whole vs → ((a : Got (Values r)) → x ≡ good a → k a ≡ whole vs → X) → X
  unfolding onward
  by_onward (good a) k vs e f = f a refl e
  by_onward (fault n p) k vs e f = never (cc)

  run_from_back : (k : ℕ) (w : List ℕ) (b : ℕ) (vs : List (Values r)) → length w ≤ k → run_from k r w b ≡ whole vs → (w ≡ run_of r vs) × All (Accepted r) vs
  unfolding run_from each
  run_from_back zero [] b vs h e = let q : [] ≡ vs = cc in rw (← q) (refl, tt)
  run_from_back zero (x ∷ w) b vs h e = absurd (omega arith)
  run_from_back (suc k) [] b vs h e = let q : [] ≡ vs = cc in rw (← q) (refl, tt)
  run_from_back (suc k) (x ∷ w) b vs h e =
      by_onward _ _ vs e λ a e₁ e₂.
      let u = record_at_back largest_record r (x ∷ w) b a e₁ in
      let t = whole_cons a.value (run_from k r a.rest a.after) vs e₂ in
      let l : suc (length w) ≡ length (record_of r a.value) + length a.rest = ap length u.0 ∙ length-append (record_of r a.value) a.rest in
      let s = record_some a.value in
      let m = run_from_back k a.rest a.after t.0 (omega arith) t.1 in
      rw (← t.2) (u.0 ∙ ap (λ (y : List ℕ). record_of r a.value ++ y) m.0, ((u.1, u.3), m.1))

  -- every accepted run is the bytes of its list
  pub run_back : (w : List ℕ) (vs : List (Values r)) → read_run r w ≡ whole vs → (w ≡ run_of r vs) × All (Accepted r) vs
  unfolding read_run
  run_back w vs e = run_from_back (length w) w 0 vs (omega arith) e

  -- the same by what is told of a run: as many records as the list has
  pub run_counted : T (clears r) → (vs : List (Values r)) → All (Accepted r) vs → run_answer r (run_of r vs) ≡ told_one done (length vs)
  unfolding run_answer
  run_counted c vs ok = ap told_ran (run_there c vs ok)

  pub counted_back : (w : List ℕ) (n : ℕ) → run_answer r w ≡ told_one done n → (vs : List (Values r)) × (length vs ≡ n) × (w ≡ run_of r vs) × All (Accepted r) vs
  unfolding run_answer
  counted_back w n e = go (read_run r w) refl e
    where
      go : (x : Ran (Values r)) → read_run r w ≡ x → told_ran x ≡ told_one done n → (vs : List (Values r)) × (length vs ≡ n) × (w ≡ run_of r vs) × All (Accepted r) vs
      go (whole vs) f g = let b = run_back w vs f in let l : length vs ≡ n = cc in (vs, l, b.0, b.1)
      go (stopped vs m p) f g = never (cc)

  -- a run that is refused: the records before the fault are read, and the reader stands at the fault
  abbrev Stops : List ℕ → ℕ → List (Values r) → Reason → ℕ → Type 0
  Stops w b vs n p = (rest : List ℕ) × (w ≡ run_of r vs ++ rest) × All (Accepted r) vs × (here_in r rest (b + length (run_of r vs)) ≡ fault n p)

  stopped_cons : (a : Values r) (x : Ran (Values r)) (vs : List (Values r)) (n : Reason) (p : ℕ) → and_then a x ≡ stopped vs n p → (us : List (Values r)) × (x ≡ stopped us n p) × (a ∷ us ≡ vs)
  unfolding and_then
  stopped_cons a (whole us) vs n p e = never (cc)
  stopped_cons a (stopped us m q) vs n p e =
      let i : m ≡ n = cc in let j : q ≡ p = cc in let k : a ∷ us ≡ vs = cc in (us, rw (i, j) refl, k)

  run_from_stops : (k : ℕ) (w : List ℕ) (b : ℕ) (vs : List (Values r)) (n : Reason) (p : ℕ) → length w ≤ k → run_from k r w b ≡ stopped vs n p → Stops w b vs n p
  unfolding run_from each here_in onward bind
  run_from_stops zero w b vs n p h e = never (cc)
  run_from_stops (suc k) [] b vs n p h e = never (cc)
  run_from_stops (suc k) (x ∷ w) b vs n p h e =
      go (record_at largest_record r (x ∷ w) b) refl e λ a us l g. run_from_stops k a.rest a.after us n p l g
    where
      go : (y : Res (Got (Values r))) → record_at largest_record r (x ∷ w) b ≡ y → (onward y λ a. and_then a.value (run_from k r a.rest a.after)) ≡ stopped vs n p
          → ((a : Got (Values r)) (us : List (Values r)) → length a.rest ≤ k → run_from k r a.rest a.after ≡ stopped us n p → Stops a.rest a.after us n p) → Stops (x ∷ w) b vs n p
      go (good a) f g ih =
          let u = record_at_back largest_record r (x ∷ w) b a f in
          let t = stopped_cons a.value (run_from k r a.rest a.after) vs n p g in
          let l : suc (length w) ≡ length (record_of r a.value) + length a.rest = ap length u.0 ∙ length-append (record_of r a.value) a.rest in
          let s = record_some a.value in
          let i = ih a t.0 (omega arith) t.1 in
          let m : a.after + length (run_of r t.0) ≡ b + length (run_of r (a.value ∷ t.0)) = omega (arith, u.2, length-append (record_of r a.value) (run_of r t.0)) in
          rw (← t.2) (
            i.0,
            u.0 ∙ ap (λ (y : List ℕ). record_of r a.value ++ y) i.1 ∙ sym (append_assoc (record_of r a.value) (run_of r t.0) i.0),
            ((u.1, u.3), i.2),
            subst (λ (q : ℕ). here_in r i.0 q ≡ fault n p) m i.3,
          )
      go (fault m q) f g ih =
          let v : [] ≡ vs = cc in
          let i : m ≡ n = cc in
          let j : q ≡ p = cc in
          let z : b + 0 ≡ b = omega arith in
          rw (← v) (x ∷ w, refl, tt, rw (z, f, i, j) refl)

  pub run_stops : (w : List ℕ) (vs : List (Values r)) (n : Reason) (p : ℕ) → read_run r w ≡ stopped vs n p
      → (rest : List ℕ) × (w ≡ run_of r vs ++ rest) × All (Accepted r) vs × (here_at r w (length (run_of r vs)) ≡ fault n p)
  unfolding read_run here_at
  run_stops w vs n p e =
      let s = run_from_stops (length w) w 0 vs n p (omega arith) e in
      let d : drop (length (run_of r vs)) w ≡ s.0 = ap (drop (length (run_of r vs))) s.1 ∙ drop_at (run_of r vs) s.0 (length (run_of r vs)) refl in
      let z : 0 + length (run_of r vs) ≡ length (run_of r vs) = omega arith in
      (s.0, s.1, s.2, rw d (rw z at s.3))

  -- counting down never cuts a run short
  pub enough : (k : ℕ) (w : List ℕ) (b : ℕ) → length w ≤ k → run_from (suc k) r w b ≡ run_from k r w b
  unfolding run_from onward
  enough zero [] b h = refl
  enough zero (x ∷ w) b h = absurd (omega arith)
  enough (suc k) [] b h = refl
  enough (suc k) (x ∷ w) b h = go (record_at largest_record r (x ∷ w) b) λ a e.
      let u = record_at_back largest_record r (x ∷ w) b a e in
      let l : suc (length w) ≡ length (record_of r a.value) + length a.rest = ap length u.0 ∙ length-append (record_of r a.value) a.rest in
      let s = record_some a.value in
      enough k a.rest a.after (omega arith)
    where
      go : (y : Res (Got (Values r))) → ((a : Got (Values r)) → y ≡ good a → run_from (suc k) r a.rest a.after ≡ run_from k r a.rest a.after)
          → (onward y λ a. and_then a.value (run_from (suc k) r a.rest a.after)) ≡ (onward y λ a. and_then a.value (run_from k r a.rest a.after))
      go (good a) f = ap (and_then a.value) (f a refl)
      go (fault n p) f = refl

  -- ---- the run reader goes from record to record

  pub here-there : T (clears r) → (s p : List ℕ) (v : Values r) (w : List ℕ) → Accepted r v → s ≡ p ++ (record_of r v ++ w) → here_at r s (length p) ≡ good (some (got v w (length p + length (record_of r v))))
  unfolding here_at here_in bind
  here-there c s p v w ok e =
      let d : drop (length p) s ≡ record_of r v ++ w = ap (drop (length p)) e ∙ drop_at p (record_of r v ++ w) (length p) refl in
      rw d (some_read (record_of r v ++ w) (length p) (record_cons v).0 ((record_cons v).1 ++ w) (ap (λ (y : List ℕ). y ++ w) (record_cons v).2)
      ∙ rw (record_at-there largest_record r c (omega arith) v ok.0 ok.1 w (length p)))
    where
      some_read : (y : List ℕ) (b x : ℕ) (z : List ℕ) → y ≡ x ∷ z → here_in r y b ≡ (bind (record_at largest_record r y b) λ a. good (some a))
      some_read y b x z e = rw e

  -- at any other position it reads as if a record began there
  pub here_end : (s : List ℕ) (p : ℕ) → length s ≤ p → here_at r s p ≡ good none
  unfolding here_at here_in bind
  here_end s p h = rw (lib.ListN.drop_of_length-le s {i = p} h)

  pub here-inside : (s : List ℕ) (p : ℕ) → p < length s → here_at r s p ≡ (bind (record_at largest_record r (drop p s) p) λ a. good (some a))
  unfolding here_at here_in bind
  here-inside s p h = rw (drop-cons s p 0)

  -- what it takes is a record that stands there
  pub here_back : (s : List ℕ) (p : ℕ) (a : Got (Values r)) → here_at r s p ≡ good (some a) → (drop p s ≡ record_of r a.value ++ a.rest) × Accepted r a.value × (a.after ≡ p + length (record_of r a.value))
  unfolding here_at here_in bind
  here_back s p a e = go (drop p s) e
    where
      by_here : (x : Res (Got (Values r))) → (bind x λ b. good (some b)) ≡ good (some a) → x ≡ good a
      by_here x f = by_bind x _ _ f λ b e g. let h : b ≡ a = cc in rw (← h) e

      go : (w : List ℕ) → here_in r w p ≡ good (some a) → (w ≡ record_of r a.value ++ a.rest) × Accepted r a.value × (a.after ≡ p + length (record_of r a.value))
      go [] f = never (cc)
      go (x ∷ w) f = let u = record_at_back largest_record r (x ∷ w) p a (by_here _ f) in (u.0, (u.1, u.3), u.2)

  -- ---- a step of the run reader, by what it sees

  pub step_takes : (s : List ℕ) (x : Reader) (a : Got (Values r)) (n : ℕ) → here_at r s x.position ≡ good (some a) → a.after ≡ x.position + n
      → (step_answer r s x ≡ told_two done x.position n) × (step_after r s x ≡ at (x.position + n) (one_more x.handed))
  unfolding step_answer step_after
  step_takes s x a n e h = let f : x.position + n - x.position ≡ n = omega arith in (rw (e, h, f) refl, rw (e, h) refl)

  pub step-ends : (s : List ℕ) (x : Reader) → here_at r s x.position ≡ good none → (step_answer r s x ≡ told_none run_end) × (step_after r s x ≡ x)
  unfolding step_answer step_after
  step-ends s x e = (rw e refl, rw e refl)

  pub step-faults : (s : List ℕ) (x : Reader) (n : Reason) (p : ℕ) → here_at r s x.position ≡ fault n p → (step_answer r s x ≡ refusal_after n p x.handed) × (step_after r s x ≡ x)
  unfolding step_answer step_after
  step-faults s x n p e = (rw e refl, rw e refl)

  -- ---- a whole walk

  -- what a run reader answers in so many steps, and what it holds after them
  unfoldable pub steps : ℕ → List ℕ → Reader → List Told
  steps zero s x = []
  steps (suc k) s x = step_answer r s x ∷ steps k s (step_after r s x)

  unfoldable pub after_steps : ℕ → List ℕ → Reader → Reader
  after_steps zero s x = x
  after_steps (suc k) s x = after_steps k s (step_after r s x)

  -- the parts of the run that it hands out in so many steps
  unfoldable pub parts : ℕ → List ℕ → Reader → List (List ℕ)
  parts zero s x = []
  parts (suc k) s x = take (step_part r s x.position).1 (drop (step_part r s x.position).0 s) ∷ parts k s (step_after r s x)

  -- each record of a list, where it stands from `b` on
  unfoldable pub handed_records : List (Values r) → ℕ → List Told
  handed_records [] b = []
  handed_records (v ∷ vs) b = told_two done b (length (record_of r v)) ∷ handed_records vs (b + length (record_of r v))

  -- over records, one after another
  walk_records : T (clears r) → (s : List ℕ) (vs : List (Values r)) → All (Accepted r) vs → (k m b n b' n' : ℕ) (before rest : List ℕ)
      → m ≡ length vs + k → s ≡ before ++ (run_of r vs ++ rest) → b ≡ length before → n + length vs ≤ top → b' ≡ b + length (run_of r vs) → n' ≡ n + length vs
      → (steps m s (at b n) ≡ handed_records vs b ++ steps k s (at b' n')) × (after_steps m s (at b n) ≡ after_steps k s (at b' n'))
  unfolding steps after_steps handed_records each one_more
  walk_records c s [] ok k m b n b' n' before rest em es eb et ep en =
      let f : m ≡ k = omega arith in let g : b' ≡ b = omega arith in let h : n' ≡ n = omega arith in (rw (f, g, h) refl, rw (f, g, h) refl)
  walk_records c s (v ∷ vs) ok k zero b n b' n' before rest em es eb et ep en = absurd (omega arith)
  walk_records c s (v ∷ vs) ok k (suc m) b n b' n' before rest em es eb et ep en =
      let w : List ℕ = run_of r vs ++ rest in
      let q : s ≡ before ++ (record_of r v ++ w) = es ∙ ap (λ (y : List ℕ). before ++ y) (append_assoc (record_of r v) (run_of r vs) rest) in
      let here : here_at r s b ≡ good (some (got v w (b + length (record_of r v)))) = rw eb (here-there c s before v w ok.0 q) in
      let t = step_takes s (at b n) (got v w (b + length (record_of r v))) (length (record_of r v)) here refl in
      let o : one_more n ≡ n + 1 = one_more_lem n (omega arith) in
      let l = length-append (record_of r v) (run_of r vs) in
      let i = walk_records c s vs ok.1 k m (b + length (record_of r v)) (n + 1) b' n' (before ++ record_of r v) rest (omega arith) (q ∙ sym (append_assoc before (record_of r v) w)) (omega (arith, length-append before (record_of r v))) (omega arith) (omega arith) (omega arith) in
      (rw (t.0, t.1, o) (ap (λ (y : List Told). told_two done b (length (record_of r v)) ∷ y) i.0), rw (t.1, o) i.1)
    where
      one_more_lem : (n : ℕ) → n < top → one_more n ≡ n + 1
      one_more_lem n h = pick_yes (ltb n top) (n + 1) n (lt→ltb n top h)

  -- the parts are the records' bytes
  parts_records : T (clears r) → (s : List ℕ) (vs : List (Values r)) → All (Accepted r) vs → (b n : ℕ) (before rest : List ℕ) → s ≡ before ++ (run_of r vs ++ rest) → b ≡ length before
      → parts (length vs) s (at b n) ≡ map (λ v. record_of r v) vs
  unfolding parts each step_part
  parts_records c s [] ok b n before rest es eb = refl
  parts_records c s (v ∷ vs) ok b n before rest es eb =
      let w : List ℕ = run_of r vs ++ rest in
      let q : s ≡ before ++ (record_of r v ++ w) = es ∙ ap (λ (y : List ℕ). before ++ y) (append_assoc (record_of r v) (run_of r vs) rest) in
      let here : here_at r s b ≡ good (some (got v w (b + length (record_of r v)))) = rw eb (here-there c s before v w ok.0 q) in
      let t = step_takes s (at b n) (got v w (b + length (record_of r v))) (length (record_of r v)) here refl in
      let m : b + length (record_of r v) - b ≡ length (record_of r v) = omega arith in
      let d : drop b s ≡ record_of r v ++ w = ap (drop b) q ∙ drop_at before (record_of r v ++ w) b (sym eb) in
      let i = parts_records c s vs ok.1 (b + length (record_of r v)) (one_more n) (before ++ record_of r v) rest (q ∙ sym (append_assoc before (record_of r v) w)) (omega (arith, length-append before (record_of r v))) in
      rw (here, m, d, take_at (record_of r v) w (length (record_of r v)) refl, t.1) (ap (λ (y : List (List ℕ)). record_of r v ∷ y) i)

  -- where a step changes nothing, all that follow answer the same
  walk_stays : (s : List ℕ) (x : Reader) → step_after r s x ≡ x → (k : ℕ) → (steps k s x ≡ replicate k (step_answer r s x)) × (after_steps k s x ≡ x)
  unfolding steps after_steps
  walk_stays s x e zero = (refl, refl)
  walk_stays s x e (suc k) = let i = walk_stays s x e k in (ap (λ (y : List Told). step_answer r s x ∷ y) (rw e i.0), rw e i.1)

  -- the records of a list in order, each with its place and as a part of the run, and then one answer for ever
  abbrev pub Walked : List ℕ → List (Values r) → Told → Type 0
  Walked s vs t =
      ((k : ℕ) → (steps (length vs + k) s made ≡ handed_records vs 0 ++ replicate k t) × (after_steps (length vs + k) s made ≡ at (length (run_of r vs)) (length vs)))
      × (parts (length vs) s made ≡ map (λ v. record_of r v) vs)

  walk : T (clears r) → (s : List ℕ) (vs : List (Values r)) (rest : List ℕ) → All (Accepted r) vs → s ≡ run_of r vs ++ rest → length s ≤ top → (t : Told)
      → (step_answer r s (at (length (run_of r vs)) (length vs)) ≡ t) × (step_after r s (at (length (run_of r vs)) (length vs)) ≡ at (length (run_of r vs)) (length vs)) → Walked s vs t
  walk c s vs rest ok e h t (a, b) = (answers, parts_records c s vs ok 0 0 [] rest e refl)
    where
      answers : (k : ℕ) → (steps (length vs + k) s made ≡ handed_records vs 0 ++ replicate k t) × (after_steps (length vs + k) s made ≡ at (length (run_of r vs)) (length vs))
      answers k =
          let l : length s ≡ length (run_of r vs) + length rest = ap length e ∙ length-append (run_of r vs) rest in
          let w = walk_records c s vs ok k (length vs + k) 0 0 (length (run_of r vs)) (length vs) [] rest refl e refl (omega (arith, run_some vs)) (omega arith) (omega arith) in
          let y = walk_stays s (at (length (run_of r vs)) (length vs)) b k in
          (w.0 ∙ ap (λ (z : List Told). handed_records vs 0 ++ z) (rw a at y.0), w.1 ∙ y.1)

  pub run_walked : T (clears r) → (vs : List (Values r)) → All (Accepted r) vs → length (run_of r vs) ≤ top → Walked (run_of r vs) vs (told_none run_end)
  run_walked c vs ok h =
      walk c (run_of r vs) vs [] ok (sym (append-nil (run_of r vs))) h (told_none run_end) (step-ends (run_of r vs) (at (length (run_of r vs)) (length vs)) (here_end (run_of r vs) (length (run_of r vs)) (omega arith)))

  pub stop_walked : T (clears r) → (w : List ℕ) (vs : List (Values r)) (n : Reason) (p : ℕ) → read_run r w ≡ stopped vs n p → length w ≤ top → Walked w vs (refusal_after n p (length vs))
  stop_walked c w vs n p e h =
      let s = run_stops w vs n p e in
      walk c w vs s.0 s.2 s.1 h (refusal_after n p (length vs)) (step-faults w (at (length (run_of r vs)) (length vs)) n p s.3)
