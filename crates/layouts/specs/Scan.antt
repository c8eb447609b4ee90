-- Reading by positions: where what follows an item starts, or the refusal. Assumes nothing.
-- Nobody has to believe this page: `Laws.Scan` proves that it is `Reading`, and code is proved against its steps.
use Rattle.std.specs.Prelude.{ℕ, suc, zero, ◌+◌, ◌||◌, List, length, ltb, Ok, Err}
use Rattle.std.proofs.Math.Seq.{slice}
use Rattle.terms.specs.declared.Reason.TheVariants.{NoItem, TooManyItems}
use Rattle.terms.specs.Answer.{pick, Answer, refused}
use Rattle.heads.specs.Scan.{head_at, outermost_at, begins_at, close_at, span}
use Rattle.heads.specs.declared.Span.{Span}
use Rattle.contents.specs.Leaves.{Leaf, rule_of, boolean, only}
use Rattle.contents.specs.Scan.{content_at}
use Rattle.layouts.specs.Layout.{Item, leaf, node, list, wrap, Members, end, ◌▸◌, Member, known, one, maybe, flag, choose, tag_of}
use Rattle.layouts.specs.Whole.{sequence}

-- go on with where something lies, or with a number, or hand the refusal on
abbrev pub then_seen : {A : Type 0} → Answer Span → (ℕ → ℕ → Answer A) → Answer A
then_seen (Ok i) k = k i.start i.end
then_seen (Err e) k = Err e

abbrev pub then_step : Answer ℕ → (ℕ → Answer ℕ) → Answer ℕ
then_step (Ok a) k = k a
then_step (Err e) k = Err e

unfoldable pub judged_at : Answer (Unit {0}) → ℕ → ℕ → Answer Span
judged_at (Ok u) a z = Ok (span a z)
judged_at (Err e) a z = Err e

-- where a primitive item's value lies
unfoldable pub leaf_at : Leaf → List ℕ → ℕ → ℕ → Answer Span
leaf_at l s p e = then_seen (head_at l.tag s p e) λ a z. judged_at (content_at l.front (rule_of l.holds) s p a z) (a + length l.front) z

unfoldable pub scan_many : (ℕ → Answer ℕ) → ℕ → ℕ → ℕ → Answer ℕ
scan_many f zero p e = pick (ltb p e) (refused TooManyItems p) (Ok e)
scan_many f (suc n) p e = pick (ltb p e) (then_step (f p) λ q. scan_many f n q e) (Ok e)

unfoldable mutual
  pub scan : Item → List ℕ → ℕ → ℕ → Answer ℕ
  scan (leaf l) s p e = then_seen (leaf_at l s p e) λ a z. Ok z
  scan (node t r) s p e = then_seen (head_at t s p e) λ a z. scans r s a z
  scan (list t k n f i) s p e = then_seen (head_at t s p e) λ a z. pick (k || ltb a z) (scan_many (λ q. scan i s q z) n a z) (refused NoItem p)
  scan (wrap t i) s p e = then_seen (head_at t s p e) λ a z. then_step (scan i s a z) λ q. close_at q z

  pub scans : Members → List ℕ → ℕ → ℕ → Answer ℕ
  scans end s p e = close_at p e
  scans (m ▸ r) s p e = then_step (scan_part m s p e) λ q. scans r s q e

  pub scan_part : Member → List ℕ → ℕ → ℕ → Answer ℕ
  scan_part (known k) s p e = then_seen (leaf_at (only k) s p e) λ a z. Ok z
  scan_part (one f i) s p e = scan i s p e
  scan_part (maybe f i) s p e = pick (begins_at (tag_of i) s p e) (scan i s p e) (Ok p)
  scan_part (flag f) s p e = pick (begins_at boolean.tag s p e) (then_seen (leaf_at boolean s p e) λ a z. Ok z) (Ok p)
  scan_part (choose f l t g i j) s p e = then_seen (leaf_at l s p e) λ a z. pick (t (slice a z s)) (scan i s z e) (scan j s z e)

-- a record at a position, and one that is the whole slice
unfoldable pub record_scan : ℕ → Members → List ℕ → ℕ → ℕ → Answer ℕ
record_scan most r s p e = then_seen (outermost_at most sequence s p e) λ a z. scans r s a z

unfoldable pub whole_scan : ℕ → Members → List ℕ → Answer ℕ
whole_scan most r s = then_step (record_scan most r s 0 (length s)) λ q. close_at q (length s)
