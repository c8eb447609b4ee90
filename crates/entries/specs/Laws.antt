-- What the first step into an item answers, a law for each case. Assumes nothing.
use Rattle.std.specs.Prelude.{◌≡◌, refl, ℕ, List, Ok, Err, IsErr, IsErrAnd}
use Rattle.std.proofs.Common.{sym, ap, ◌∙◌}
use Rattle.terms.specs.declared.Field.{Field}
use Rattle.terms.specs.Answer.{Answer}
use Rattle.terms.specs.Laws.Answer.{handed_on}
use Rattle.terms.specs.declared.Refusal.{Refusal}
use Rattle.layouts.specs.Scan.{leaf_at}
use Rattle.primitives.specs.declared.Primitive.{Primitive}
use Rattle.primitives.specs.Primitive.{leaf_of}
use Rattle.layouts.specs.Marks.{noted, blaming, leaf_marks}
use Rattle.entries.specs.Entry.{leaf_walk}
use Rattle.heads.specs.declared.Span.{Span}

-- two answers at once, and each of them
pub both : {A : Type 0} {x y : A} {d d' : List ℕ} → x ≡ y → d ≡ d' → ◌≡◌ {A = A × List ℕ} (x, d) (y, d')
both e f = rw (e, f) refl

pub answers : {A : Type 0} {x y : A × List ℕ} → x ≡ y → x.0 ≡ y.0
answers {A} h = ap (λ (z : A × List ℕ). z.0) h

pub tables : {A : Type 0} {x y : A × List ℕ} → x ≡ y → x.1 ≡ y.1
tables {A} h = ap (λ (z : A × List ℕ). z.1) h

-- a refusal that `?` hands on, beside a table
pub handed : {A : Type 0} (y : Answer A) (r : Refusal) → IsErr y × IsErrAnd y (λ e. e ≡ r) → {d : List ℕ} {w : Answer A × List ℕ} → ◌≡◌ {A = Answer A × List ℕ} (Err r, d) w → ◌≡◌ {A = Answer A × List ℕ} (y, d) w
handed y r h g = both (handed_on y r h) refl ∙ g

-- ---- a primitive item

-- `x` is its reading, whose refusal is noted in `d₀`
module _ (f : Field) (n : ℕ) (s : List ℕ) (p e : ℕ) (d : List ℕ) (l : Primitive) (h : Answer Span) (j : h ≡ leaf_at (leaf_of l) s p e) (x : Answer Span) (i : x ≡ h) (d₀ : List ℕ) (o : d₀ ≡ blaming h f d) where
  pub leaf_refused : (r : Refusal) → x ≡ Err r → (Err r, d₀) ≡ leaf_walk (leaf_of l) f n s p e d
  unfolding leaf_walk leaf_marks
  leaf_refused r b = let g : h ≡ Err r = sym i ∙ b in both (rw (← j, g)) (rw (← j, g) (rw g at o))

  pub leaf_taken : (v : Span) (d' : List ℕ) → x ≡ Ok v → d' ≡ noted f n v.start v.end 0 d₀ → (Ok v, d') ≡ leaf_walk (leaf_of l) f n s p e d
  unfolding leaf_walk leaf_marks
  leaf_taken v d' b k = let g : h ≡ Ok v = sym i ∙ b in let q : d₀ ≡ d = rw g at o in both (rw (← j, g)) (rw (← j, g) (rw q at k))
