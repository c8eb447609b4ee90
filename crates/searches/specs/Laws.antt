-- The steps of looking through a list. Assumes nothing.
use Rattle.std.specs.Prelude.{◌≡◌, ℕ, suc, ◌+◌, ◌-◌, ◌≤◌, ◌<◌, Bool, true, false, List, length, ltb, Ok, Err, Some, None}
use Rattle.std.proofs.Common.{lt-ltb, le-ltb}
use native.Mathlib.Omega.{arith}
use Rattle.std.proofs.Math.Seq.{slice}
use Rattle.terms.specs.Answer.{Res, good, fault, pick, same, Answer}
use Rattle.terms.specs.Laws.Answer.{never}
use Rattle.heads.specs.Head.{Cut, forms, head}
use Rattle.heads.specs.Scan.{seen, head_at}
use Rattle.heads.specs.declared.Span.{Span}
use Rattle.layouts.specs.Whole.{sequence}
use Rattle.layouts.specs.Scan.{then_seen}
use Rattle.records.specs.declared.Part.{Part}
use Rattle.records.specs.Found.{Found, part}
use Rattle.searches.specs.Match.{entry_at, of_seen, listed_at}

-- ---- an item ends after it starts

seen_order : (r : Res Cut) (i : Span) → seen r ≡ Ok i → i.start ≤ i.end
seen_order (good c) i h = let a : c.start ≡ i.start = cc in let z : c.start + length c.content ≡ i.end = cc in omega arith
seen_order (fault n q) i h = never (cc)

head_order : (t : ℕ) (s : List ℕ) (p e : ℕ) (i : Span) → head_at t s p e ≡ Ok i → i.start ≤ i.end
unfolding head_at
head_order t s p e i h = seen_order (head forms t (slice p e s) p) i h

then_order : (h : Answer Span) (f : ℕ → ℕ → Answer Span) (i : Span) → ((b c : ℕ) → f b c ≡ Ok i → i.start ≤ i.end) → then_seen h f ≡ Ok i → i.start ≤ i.end
then_order (Ok j) f i g e = g j.start j.end e
then_order (Err r) f i g e = never (cc)

pub entry_order : (k : Bool) (s : List ℕ) (p e : ℕ) (i : Span) → entry_at k s p e ≡ Ok i → i.start ≤ i.end
unfolding entry_at
entry_order true s p e i h = head_order 0x04 s p e i h
entry_order false s p e i h =
    then_order (head_at sequence s p e) (λ b c. then_seen (head_at 0x13 s b c) λ d f. head_at 0x04 s f c) i
    (λ b c g. then_order (head_at 0x13 s b c) (λ d f. head_at 0x04 s f c) i (λ d f g'. head_order 0x04 s f c i g') g) h

-- ---- one entry after another

-- what is found among the entries from the one of index `j` on, of at most `n`
pub listed_step : (g : List ℕ) (k : Bool) (s : List ℕ) (e n j p : ℕ) → j < n
    → listed_at g k s e (n - j) p ≡ pick (ltb p e) (of_seen (entry_at k s p e) λ a z. pick (same g (slice a z s)) (Ok (Some (part a (z - a)))) (listed_at g k s e (n - (j + 1)) z)) (Ok None)
unfolding listed_at
listed_step g k s e n j p h = let m : n - j ≡ suc (n - (j + 1)) = omega arith in rw m

module _ (g : List ℕ) (k : Bool) (s : List ℕ) (e n j p : ℕ) (x : Found Part) (i : listed_at g k s e (n - j) p ≡ x) where
  pub listed_out : n ≤ j → Ok None ≡ x
  unfolding listed_at
  listed_out h = let z : n - j ≡ 0 = omega arith in rw z at i

  module _ (m : j < n) where
    pub listed_end : e ≤ p → Ok None ≡ x
    unfolding pick
    listed_end h = rw (listed_step g k s e n j p m, le-ltb p e h) at i

    pub listed_on : p < e → (h : Answer Span) (b : Span) (w : List ℕ) (t : Bool) → h ≡ entry_at k s p e → h ≡ Ok b → w ≡ slice b.start b.end s → t ≡ same g w → t ≡ false → listed_at g k s e (n - (j + 1)) b.end ≡ x
    unfolding pick
    listed_on l h b w t o q f v u = rw (listed_step g k s e n j p m, lt-ltb p e l, ← o, q, ← f, ← v, u) at i
