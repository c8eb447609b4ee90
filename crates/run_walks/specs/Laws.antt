-- A step, and a run from a position on, by the record that stands there. Assumes nothing.
use Rattle.std.specs.Prelude.{◌≡◌, ℕ, suc, zero, ◌+◌, ◌-◌, ◌≤◌, ◌<◌, Ok, Err, Some, None}
use Rattle.std.proofs.Math.Path.{refl, sym, ap}
use Rattle.std.proofs.Common.{◌∙◌, length-drop, drop_of_length-le, drop_at}
use native.Mathlib.Omega.{arith}
use Rattle.std.proofs.Math.Option.{some}
use mathlib.Core.List.{List, [], ◌∷◌}
use Rattle.std.proofs.Math.ListN.{length, drop, length-append}
use Rattle.std.proofs.Math.Seq.{take-length, drop-drop, slice}
use Rattle.terms.specs.declared.Reason.{Reason}
use Rattle.terms.specs.Numbers.{largest_record}
use Rattle.terms.specs.Answer.{Res, good, fault, Got, bind, Answer}
use Rattle.terms.specs.Laws.Answer.{never, by_bind, same_refusal}
use Rattle.terms.specs.declared.Refusal.{Refusal}
use Rattle.layouts.specs.Layout.{Members, Values}
use Rattle.layouts.specs.Whole.{record_of, record_at}
use Rattle.layouts.specs.Scan.{record_scan}
use Rattle.layouts.proofs.Laws.Scan.{record_read}
use Rattle.layouts.proofs.Laws.Scan as Scan
use Rattle.walks.specs.Walk.{record_walk}
use Rattle.entries.specs.Laws.{answers}
use Rattle.runs.specs.Run.{Ran, whole, stopped, and_then, onward, run_from, read_run, run_answer, here_in, here_at, at, one_more, step_answer, step_after, told_stepped, told_counted, told_ran}
use Rattle.runs.proofs.Laws.Run.{enough, record_some, here_end, here-inside, here_back, step-ends, step-faults}
use Rattle.run_walks.specs.Walk.{run_at, told_behind}
use Rattle.records.specs.Found.{part}

-- ---- the code's own steps

pub here_walked : (most : ℕ) (r m : Members) (s d d' : List ℕ) (p e : ℕ) (x : Answer ℕ) → m ≡ r → (x, d') ≡ record_walk most m s p e d → x ≡ record_scan most r s p e
unfolding record_walk
here_walked most r m s d d' p e x g h = answers h ∙ ap (λ (y : Members). record_scan most y s p e) g

-- ---- what stands at a position inside a run, by where it ends

module _ (r : Members) (s : List ℕ) (p : ℕ) (h : p < length s) (x : Answer ℕ) (e : x ≡ record_scan largest_record r s p (length s)) where
  scanned : x ≡ Scan.step (record_at largest_record r (drop p s) p)
  scanned =
      let w : slice p (length s) s ≡ drop p s = ap (drop p) (take-length s) in
      rw w at (e ∙ record_read s largest_record r p (length s) (omega arith) (omega arith))

  pub here_refused : (f : Refusal) → x ≡ Err f → here_at r s p ≡ fault f.reason f.place
  unfolding bind
  here_refused f i = here-inside r s p h ∙ go (record_at largest_record r (drop p s) p) (sym i ∙ scanned)
    where
      go : (y : Res (Got (Values r))) → Err f ≡ Scan.step y → (bind y λ a. good (some a)) ≡ fault f.reason f.place
      go (good a) g = never (cc)
      go (fault m o) g = let q = same_refusal g in ap (λ (w : Refusal). fault w.reason w.place) (sym q)

  pub here-next : (z : ℕ) → x ≡ Ok z → (a : Got (Values r)) × (here_at r s p ≡ good (some a)) × (a.after ≡ z)
  unfolding bind
  here-next z i = go (record_at largest_record r (drop p s) p) (here-inside r s p h) (sym i ∙ scanned)
    where
      go : (y : Res (Got (Values r))) → here_at r s p ≡ (bind y λ a. good (some a)) → Ok z ≡ Scan.step y → (a : Got (Values r)) × (here_at r s p ≡ good (some a)) × (a.after ≡ z)
      go (good a) g f = (a, g, cc)
      go (fault m o) g f = never (cc)

  -- a record has bytes, and lies in the run
  record_ends : (z : ℕ) → x ≡ Ok z → (p < z) × (z ≤ length s)
  record_ends z i =
      let (a, g, f) = here-next z i in
      let b = here_back r s p a g in
      let l : length s - p ≡ length (record_of r a.value) + length a.rest = sym (length-drop p s) ∙ ap length b.0 ∙ length-append (record_of r a.value) a.rest in
      let o = record_some r a.value in
      (omega arith, omega arith)

  pub record_order : (z : ℕ) → x ≡ Ok z → p ≤ z
  record_order z i = omega (arith, record_ends z i)

  pub record_less : (z : ℕ) → x ≡ Ok z → length s - z < length s - p
  record_less z i = omega (arith, record_ends z i)

  pub record_more : (z k : ℕ) → x ≡ Ok z → k ≤ p → k + 1 ≤ z
  record_more z k i h = omega (arith, record_ends z i)

-- ---- a step

module _ (r : Members) (s : List ℕ) (p k : ℕ) where
  pub end_told : length s ≤ p → told_stepped (Ok None) ≡ step_answer r s (at p k)
  end_told h = sym (step-ends r s (at p k) (here_end r s p h)).0

  pub end_held : length s ≤ p → at p k ≡ step_after r s (at p k)
  end_held h = sym (step-ends r s (at p k) (here_end r s p h)).1

  module _ (h : p < length s) (x : Answer ℕ) (e : x ≡ record_scan largest_record r s p (length s)) where
    pub fault_told : (f : Refusal) → x ≡ Err f → told_stepped (Err (record { refusal = f; before = k })) ≡ step_answer r s (at p k)
    fault_told f i = sym (step-faults r s (at p k) f.reason f.place (here_refused r s p h x e f i)).0

    pub fault_held : (f : Refusal) → x ≡ Err f → at p k ≡ step_after r s (at p k)
    fault_held f i = sym (step-faults r s (at p k) f.reason f.place (here_refused r s p h x e f i)).1

    pub record_told : (z : ℕ) → x ≡ Ok z → told_stepped (Ok (Some (part p (z - p)))) ≡ step_answer r s (at p k)
    unfolding step_answer
    record_told z i = let (a, g, f) = here-next r s p h x e z i in rw (g, f) refl

    pub record_held : (z m : ℕ) → x ≡ Ok z → m ≡ one_more k → at z m ≡ step_after r s (at p k)
    unfolding step_after
    record_held z m i o = let (a, g, f) = here-next r s p h x e z i in rw (g, f, o) refl

-- ---- a run from a position on

module _ (r : Members) where
  -- so many to count down as there are bytes
  enough_for : (w : List ℕ) (b j : ℕ) → run_from (length w + j) r w b ≡ run_from (length w) r w b
  enough_for w b zero = let m : length w + 0 ≡ length w = omega arith in rw m refl
  enough_for w b (suc j) = let m : length w + suc j ≡ suc (length w + j) = omega arith in rw m (enough r (length w + j) w b (omega arith) ∙ enough_for w b j)

  module _ (s : List ℕ) where
    run_end : (p : ℕ) → length s ≤ p → run_at r s p ≡ whole []
    unfolding run_at run_from
    run_end p h = rw (drop_of_length-le s {i = p} h) refl

    run_fault : (p : ℕ) (n : Reason) (q : ℕ) → here_at r s p ≡ fault n q → run_at r s p ≡ stopped [] n q
    unfolding run_at run_from here_at here_in bind onward
    run_fault p n q e = go (drop p s) e
      where
        go : (w : List ℕ) → here_in r w p ≡ fault n q → run_from (length w) r w p ≡ stopped [] n q
        go [] f = never (cc)
        go (x ∷ w) f = rec (record_at largest_record r (x ∷ w) p) f
          where
            rec : (y : Res (Got (Values r))) → (bind y λ a. good (some a)) ≡ fault n q → (onward y λ a. and_then a.value (run_from (length w) r a.rest a.after)) ≡ stopped [] n q
            rec (good a) g = never (cc)
            rec (fault m o) g = cc

    run_record : (p : ℕ) (a : Got (Values r)) → here_at r s p ≡ good (some a) → run_at r s p ≡ and_then a.value (run_at r s a.after)
    unfolding run_at run_from here_at here_in bind onward
    run_record p a e =
        let b = here_back r s p a e in
        let l : length (drop p s) ≡ length (record_of r a.value) + length a.rest = ap length b.0 ∙ length-append (record_of r a.value) a.rest in
        let d : a.rest ≡ drop a.after s = sym (drop_at (record_of r a.value) a.rest (length (record_of r a.value)) refl) ∙ ap (drop (length (record_of r a.value))) (sym b.0) ∙ drop-drop (length (record_of r a.value)) p s ∙ ap (λ (q : ℕ). drop q s) (sym b.2) in
        go (drop p s) e (omega (arith, record_some r a.value)) ∙ ap (λ (w : List ℕ). and_then a.value (run_from (length w) r w a.after)) d
      where
        go : (w : List ℕ) → here_in r w p ≡ good (some a) → length a.rest < length w → run_from (length w) r w p ≡ and_then a.value (run_from (length a.rest) r a.rest a.after)
        go [] f h = never (cc)
        go (x ∷ w) f h = by_bind (record_at largest_record r (x ∷ w) p) _ _ f λ c f₁ f₂.
            let i : c ≡ a = cc in
            let m : length w ≡ length a.rest + (length w - length a.rest) = omega arith in
            rw (f₁, i) (ap (and_then a.value) (ap (λ (n : ℕ). run_from n r a.rest a.after) m ∙ enough_for a.rest a.after (length w - length a.rest)))

behind_more : {A : Type 0} (k : ℕ) (a : A) (x : Ran A) → told_behind k (and_then a x) ≡ told_behind (k + 1) x
unfolding told_behind and_then
behind_more k a (whole vs) = let m : k + suc (length vs) ≡ k + 1 + length vs = omega arith in rw m refl
behind_more k a (stopped vs n p) = let m : k + suc (length vs) ≡ k + 1 + length vs = omega arith in rw m refl

behind_none : {A : Type 0} (x : Ran A) → told_behind 0 x ≡ told_ran x
unfolding told_behind
behind_none (whole vs) = let m : 0 + length vs ≡ length vs = omega arith in rw m refl
behind_none (stopped vs n p) = let m : 0 + length vs ≡ length vs = omega arith in rw m refl

-- ---- a whole run

module _ (r : Members) (s : List ℕ) where
  pub whole_start : told_behind 0 (run_at r s 0) ≡ run_answer r s
  unfolding run_answer read_run run_at
  whole_start = behind_none (run_at r s 0)

  module _ (p k : ℕ) (v : told_behind k (run_at r s p) ≡ run_answer r s) where
    pub whole_over : length s ≤ p → told_counted (Ok k) ≡ run_answer r s
    unfolding told_behind
    whole_over h = let m : k + 0 ≡ k = omega arith in rw m at (rw (run_end r s p h) at v)

    module _ (h : p < length s) (x : Answer ℕ) (e : x ≡ record_scan largest_record r s p (length s)) where
      pub whole_refused : (f : Refusal) → x ≡ Err f → told_counted (Err (record { refusal = f; before = k })) ≡ run_answer r s
      unfolding told_behind
      whole_refused f i = let m : k + 0 ≡ k = omega arith in rw m at (rw (run_fault r s p f.reason f.place (here_refused r s p h x e f i)) at v)

      pub whole_on : (z : ℕ) → x ≡ Ok z → told_behind (k + 1) (run_at r s z) ≡ run_answer r s
      whole_on z i =
          let (a, g, f) = here-next r s p h x e z i in
          ap (λ (q : ℕ). told_behind (k + 1) (run_at r s q)) (sym f) ∙ sym (behind_more k a.value (run_at r s a.after)) ∙ ap (told_behind k) (sym (run_record r s p a g)) ∙ v
