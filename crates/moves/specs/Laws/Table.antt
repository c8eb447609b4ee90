-- A table of notes: what is stored in it stands there, and storing it again changes nothing. Assumes nothing.
use Rattle.std.specs.Prelude.{◌≡◌, ◌≢◌, ℕ, ◌≤◌, ◌<◌, Bool, true, false, length, get_or, leb}
use Rattle.std.proofs.Math.Path.{refl, ap}
use Rattle.std.proofs.Common.{sym, ◌∙◌, arith, length-set, set-set, get_or-set_same}
use mathlib.Core.List.{List, [], ◌∷◌, ◌++◌}
use Rattle.std.proofs.Math.ListN.{set}
use Rattle.std.proofs.Math.Seq.{set_out}
use Rattle.std.proofs.lemmas.List.{set_comm}
use Rattle.std.proofs.Math.Dec.{leb→le, nleb→lt}
use Rattle.terms.specs.Laws.Answer.{never, test}
use Rattle.stores.specs.Store.{cap, bump, advance, put, puts}
use Rattle.stores.specs.Laws.Store.{bump_on, bump-full, put_past, puts_to, puts_is}
use Rattle.moves.specs.Notes.{Holds, Ready}

bump_above : (k : ℕ) → k ≤ bump k
bump_above k =
    test (leb cap k)
    (λ g. let q = bump-full k (leb→le cap k g) in omega arith)
    (λ g. let q = bump_on k (nleb→lt cap k g) in omega arith)

-- a number stored before others
set-put : (t : List ℕ) (k j z : ℕ) (zs : List ℕ) → k < j → set (put t j zs) k z ≡ put (set t k z) j zs
unfolding put
set-put t k j z [] h = refl
set-put t k j z (y ∷ zs) h =
    let b = bump_above j in
    let d : j ≢ k = λ e. absurd (omega arith) in
    set-put (set t j y) k (bump j) z zs (omega arith) ∙ ap (λ (u : List ℕ). put u (bump j) zs) (set_comm t j k y z d)

module _ (k z : ℕ) (zs : List ℕ) where
  set_first : (t : List ℕ) → length t ≤ cap → set (put t (bump k) zs) k z ≡ put t k (z ∷ zs)
  unfolding put
  set_first t h =
      test (leb cap k)
      (λ g. let q : cap ≤ k = leb→le cap k g in
      let b = bump_above k in
      let p : put t (bump k) zs ≡ t = put_past t (bump k) zs (omega arith) in
      rw (p, set_out t k z (omega arith)) (sym p))
      (λ g. let q : k < cap = nleb→lt cap k g in
      let b = bump_on k q in
      set-put t k (bump k) z zs (omega arith))

-- what was stored is held
holds-put : (zs t : List ℕ) (k : ℕ) → length t ≤ cap → Holds zs (put t k zs) k
unfolding Holds put
holds-put [] t k h = tt
holds-put (z ∷ zs) t k h =
    let l : length (set t k z) ≤ cap = rw (length-set t k z) h in
    let e : set (put (set t k z) (bump k) zs) k z ≡ put (set t k z) (bump k) zs = set_first k z zs (set t k z) l ∙ ap (λ (u : List ℕ). put u (bump k) zs) (set-set t k z z) in
    (e, holds-put zs (set t k z) (bump k) l)

-- what is held is stored in vain
holds_same : (zs t : List ℕ) (k : ℕ) → Holds zs t k → put t k zs ≡ t
unfolding Holds put
holds_same [] t k h = refl
holds_same (z ∷ zs) t k h = rw h.0 (holds_same zs t (bump k) h.1)

holds-first : (xs ys t : List ℕ) (k : ℕ) → Holds (xs ++ ys) t k → Holds xs t k
unfolding Holds
holds-first [] ys t k h = tt
holds-first (x ∷ xs) ys t k h = (h.0, holds-first xs ys t (bump k) h.1)

holds_rest : (xs ys t : List ℕ) (k : ℕ) → Holds (xs ++ ys) t k → Holds ys t (advance k (length xs))
unfolding Holds advance
holds_rest [] ys t k h = h
holds_rest (x ∷ xs) ys t k h = holds_rest xs ys t (bump k) h.1

-- the first number that is held
holds_read : (z : ℕ) (zs t : List ℕ) (k d : ℕ) → Holds (z ∷ zs) t k → k < length t → get_or t k d ≡ z
unfolding Holds
holds_read z zs t k d h l = ap (λ (u : List ℕ). get_or u k d) (sym h.0) ∙ get_or-set_same t k z d l

-- ---- where it is said that they are known

length-put : (zs t : List ℕ) (k : ℕ) → length (put t k zs) ≡ length t
unfolding put
length-put [] t k = refl
length-put (z ∷ zs) t k = length-put zs (set t k z) (bump k) ∙ length-set t k z

pub ready_size : (b : Bool) (zs t : List ℕ) (k : ℕ) → Ready b zs t k → length t ≤ cap
unfolding Ready
ready_size b zs t k h = h.0

pub ready_not : (zs t : List ℕ) (k : ℕ) → length t ≤ cap → Ready false zs t k
unfolding Ready
ready_not zs t k l = (l, λ g. never (cc))

pub ready_known : (b : Bool) (zs t : List ℕ) (k : ℕ) → b ≡ true → Ready b zs t k → Ready true zs t k
unfolding Ready
ready_known b zs t k e h = (h.0, λ g. h.1 e)

-- what was stored in a table is known
pub ready_put : (zs t : List ℕ) (k k₁ : ℕ) (t₁ : List ℕ) → (k₁, t₁) ≡ puts zs t k → length t ≤ cap → Ready true zs t₁ k
unfolding Ready
ready_put zs t k k₁ t₁ e l =
    let q : t₁ ≡ put t k zs = puts_is zs t k k₁ t₁ e in
    (rw (q, length-put zs t k) l, λ g. rw q (holds-put zs t k l))

ready_holds : (zs t : List ℕ) (k : ℕ) → Ready true zs t k → Holds zs t k
unfolding Ready
ready_holds zs t k h = h.1 refl

pub ready_read : (z : ℕ) (zs t : List ℕ) (k d : ℕ) → Ready true (z ∷ zs) t k → k < length t → get_or t k d ≡ z
unfolding Ready
ready_read z zs t k d h l = holds_read z zs t k d (h.1 refl) l

pub ready_first : (b : Bool) (xs ys t : List ℕ) (k : ℕ) → Ready b (xs ++ ys) t k → Ready b xs t k
unfolding Ready
ready_first b xs ys t k h = (h.0, λ g. holds-first xs ys t k (h.1 g))

pub ready_rest : (b : Bool) (xs ys t : List ℕ) (k k₁ : ℕ) (t₁ : List ℕ) → Ready b (xs ++ ys) t k → (k₁, t₁) ≡ puts xs t k → Ready b ys t₁ k₁
unfolding Ready
ready_rest b xs ys t k k₁ t₁ h e =
    let l : length t₁ ≤ cap = rw (puts_is xs t k k₁ t₁ e, length-put xs t k) h.0 in (
      l,
      λ g.
          let q : t₁ ≡ t = puts_is xs t k k₁ t₁ e ∙ holds_same xs t k (holds-first xs ys t k (h.1 g)) in
          rw (q, puts_to xs t k k₁ t₁ e) (holds_rest xs ys t k (h.1 g)),
    )

-- ---- a note before others

module _ (v : ℕ) (zs t : List ℕ) (k j : ℕ) (n : j ≡ advance k 1) where
  next_is : j ≡ bump k
  unfolding advance
  next_is = n

  -- noted after them
  module _ (k₁ : ℕ) (t₁ t₂ : List ℕ) (e : (k₁, t₁) ≡ puts zs t j) (u : t₂ ≡ set t₁ k v) (l : length t ≤ cap) where
    pub noted : (k₁, t₂) ≡ puts (v ∷ zs) t k
    unfolding puts put advance
    noted =
        let a : k₁ ≡ advance (bump k) (length zs) = puts_to zs t j k₁ t₁ e ∙ ap (λ (i : ℕ). advance i (length zs)) next_is in
        let b : t₂ ≡ put t k (v ∷ zs) = u ∙ ap (λ (w : List ℕ). set w k v) (puts_is zs t j k₁ t₁ e ∙ ap (λ (i : ℕ). put t i zs) next_is) ∙ set_first k v zs t l in
        rw (a, b) refl

    pub noted_ready : Ready true (v ∷ zs) t₂ k
    noted_ready = ready_put (v ∷ zs) t k k₁ t₂ noted l

    pub noted_again : (w : ℕ × List ℕ) → w ≡ puts (v ∷ zs) t₂ k → w ≡ puts (v ∷ zs) t k
    unfolding puts
    noted_again w g =
        let b : put t₂ k (v ∷ zs) ≡ put t k (v ∷ zs) = holds_same (v ∷ zs) t₂ k (ready_holds (v ∷ zs) t₂ k noted_ready) ∙ puts_is (v ∷ zs) t k k₁ t₂ noted in
        g ∙ ap (λ (x : List ℕ). (advance k (length (v ∷ zs)), x)) b

  -- known before them
  module _ (h : Ready true (v ∷ zs) t k) where
    pub passed : (w : ℕ × List ℕ) → w ≡ puts zs t j → w ≡ puts (v ∷ zs) t k
    unfolding puts put advance Holds Ready
    passed w g = g ∙ rw (next_is, (h.1 refl).0) refl

    pub passed_ready : Ready true zs t j
    unfolding Ready Holds
    passed_ready = (h.0, λ g. rw next_is (h.1 refl).1)
