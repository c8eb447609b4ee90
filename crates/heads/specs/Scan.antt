-- A head by positions: what code answers of the window from `p` to `e` of a slice. Assumes nothing.
use Rattle.std.specs.Prelude.{ℕ, ◌+◌, Bool, ◌&&◌, List, length, get_or, ltb, eqb, Ok, Err}
use Rattle.std.proofs.Math.Seq.{slice}
use Rattle.terms.specs.declared.Reason.TheVariants.{LeftOver}
use Rattle.terms.specs.Answer.{Res, good, fault, pick, Answer, refused}
use Rattle.heads.specs.Head.{forms, Cut, head, outermost}
use Rattle.heads.specs.declared.Span.{Span}

abbrev pub span : ℕ → ℕ → Span
span a z = record { start = a; end = z }

-- where the content of an item lies, or its refusal
abbrev pub seen : Res Cut → Answer Span
seen (good c) = Ok (span c.start (c.start + length c.content))
seen (fault n p) = refused n p

unfoldable pub head_at : ℕ → List ℕ → ℕ → ℕ → Answer Span
head_at t s p e = seen (head forms t (slice p e s) p)

unfoldable pub outermost_at : ℕ → ℕ → List ℕ → ℕ → ℕ → Answer Span
outermost_at most t s p e = seen (outermost forms most t (slice p e s) p)

-- where what follows an item starts, or its refusal
abbrev pub past_of : Answer Span → Answer ℕ
past_of (Ok i) = Ok i.end
past_of (Err e) = Err e

-- whether an item of a tag begins at a position
unfoldable pub begins_at : ℕ → List ℕ → ℕ → ℕ → Bool
begins_at t s p e = ltb p e && eqb (get_or s p 0) t

-- the end of what stands in a tag: 5 at the first byte left over
unfoldable pub close_at : ℕ → ℕ → Answer ℕ
close_at p e = pick (ltb p e) (refused LeftOver p) (Ok e)
