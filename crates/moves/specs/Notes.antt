-- What is noted of the items that hold others while they are measured, a number each, in the order in which they begin. Assumes nothing.
-- Nobody has to believe this page: it names what stands before each item, by what `Move` says of it.
use Rattle.std.specs.Prelude.{◌≡◌, ℕ, zero, suc, ◌-◌, ◌≤◌, Bool, true, false, List, [], ◌∷◌, ◌++◌, length, set}
use Rattle.terms.specs.Answer.{pick}
use Rattle.layouts.specs.Layout.{Item, leaf, node, list, wrap, Members, end, ◌▸◌, Member as Part, known, one, maybe, flag, choose, tag_of}
use Rattle.structures.specs.Structure.{layout_of}
use Rattle.rows.specs.declared.Member.{Member}
use Rattle.rows.specs.declared.Member.TheVariants as member
use Rattle.rows.specs.Row.{choice_of}
use Rattle.sides.specs.declared.Side.{Side}
use Rattle.sides.specs.declared.Side.TheVariants as side
use Rattle.sides.specs.Move.{Moved, Body, single, open_at, more, present_at, value_at, move_many, move_leaf, move, moves, move_part}
use Rattle.stores.specs.Store.{cap, bump, advance}
use Rattle.moves.specs.Walk.{bare, inside}

-- in a record the bytes that stand in an item, in a sheet the items of a list
abbrev pub note_by : Side → ℕ → ℕ → ℕ
note_by side.Record k n = n
note_by side.Sheet k n = k

abbrev pub note_of : Side → Body → ℕ
note_of to b = note_by to b.1 (advance 0 (length b.2))

-- the items of a list: their notes, by where each ends
unfoldable pub notes_many : Side → (ℕ → Moved) → (ℕ → List ℕ) → ℕ → ℕ → ℕ → ℕ → ℕ → List ℕ
notes_many from f g zero k n p z = []
notes_many from f g (suc m) k n p z = pick (more from k n p z) (g p ++ notes_many from f g m (suc k) n (f p).0 z) []

module _ (from to : Side) where
  -- an item's own note, where something stands before what it holds
  abbrev pub own : Bool → Body → List ℕ
  own listed b = pick (bare to listed) [] (note_of to b ∷ [])

  abbrev pub noting : ℕ → Bool → (ℕ → ℕ → ℕ → Body) → (ℕ → ℕ → ℕ → List ℕ) → List ℕ → ℕ → ℕ → List ℕ
  noting t listed f g s p e =
      own listed (f (open_at from t listed s p e).0 (open_at from t listed s p e).1 (open_at from t listed s p e).2)
      ++ g (open_at from t listed s p e).0 (open_at from t listed s p e).1 (open_at from t listed s p e).2

  unfoldable mutual
    pub notes : Item → List ℕ → ℕ → ℕ → List ℕ
    notes (leaf l) s p e = []
    notes (node t r) s p e = noting t false (λ c a z. single (moves from to r s a z)) (λ c a z. notes_all r s a z) s p e
    notes (list t o n f i) s p e =
        noting t true (λ c a z. move_many from (λ q. move from to i s q z) n 0 c a z) (λ c a z. notes_many from (λ q. move from to i s q z) (λ q. notes i s q z) n 0 c a z) s p e
    notes (wrap t i) s p e = noting t false (λ c a z. single (move from to i s a z)) (λ c a z. notes i s a z) s p e

    pub notes_all : Members → List ℕ → ℕ → ℕ → List ℕ
    notes_all end s p e = []
    notes_all (m ▸ r) s p e = notes_part m s p e ++ notes_all r s (move_part from to m s p e).0 e

    pub notes_part : Part → List ℕ → ℕ → ℕ → List ℕ
    notes_part (known k) s p e = []
    notes_part (one f i) s p e = notes i s p e
    notes_part (maybe f i) s p e = pick (present_at from (tag_of i) s p e).0 (notes i s (present_at from (tag_of i) s p e).1 e) []
    notes_part (flag f) s p e = []
    notes_part (choose f l t g i j) s p e = pick (t (value_at from l s p e)) (notes i s (move_leaf from to l s p e).0 e) (notes j s (move_leaf from to l s p e).0 e)

  -- what stands in an item, from `a` to `z`, with its count
  unfoldable pub inside_notes : Item → List ℕ → ℕ → ℕ → ℕ → List ℕ
  inside_notes (leaf l) s c a z = []
  inside_notes (node t r) s c a z = notes_all r s a z
  inside_notes (list t o n f i) s c a z = notes_many from (λ q. move from to i s q z) (λ q. notes i s q z) n 0 c a z
  inside_notes (wrap t i) s c a z = notes i s a z

  -- an item that holds others, by what stands in it
  unfoldable pub held_notes : Item → ℕ → Bool → List ℕ → ℕ → ℕ → List ℕ
  held_notes i t listed s p e = noting t listed (λ c a z. inside from to i s c a z) (λ c a z. inside_notes i s c a z) s p e

  -- the same from its window on, where something stands before it
  unfoldable pub front_notes : Item → List ℕ → ℕ → ℕ → ℕ → List ℕ
  front_notes i s c a z = note_of to (inside from to i s c a z) ∷ inside_notes i s c a z

  -- a member of a row
  unfoldable pub member_notes : Member → List ℕ → ℕ → ℕ → List ℕ
  member_notes member.Blank s p e = []
  member_notes (member.Known w) s p e = []
  member_notes (member.Leaf f l) s p e = []
  member_notes (member.Part f x) s p e = notes (layout_of x) s p e
  member_notes (member.Maybe f x) s p e = notes_part (maybe f (layout_of x)) s p e
  member_notes (member.Flag f) s p e = []
  member_notes (member.Choice f l c g x y) s p e = notes_part (choice_of f l c g x y) s p e

  -- the items of a list, at most `m`, after `k` of `n`
  unfoldable pub list_notes : Item → ℕ → ℕ → ℕ → List ℕ → ℕ → ℕ → List ℕ
  list_notes i m k n s p e = notes_many from (λ q. move from to i s q e) (λ q. notes i s q e) (m - k) k n p e

-- a table holds numbers from a slot on, as far as it has room
unfoldable pub Holds : List ℕ → List ℕ → ℕ → Type 0
Holds [] t k = Unit {0}
Holds (z ∷ zs) t k = (set t k z ≡ t) × Holds zs t (bump k)

-- a table that ends before positions stop, and holds them where it is said that they are known
unfoldable pub Ready : Bool → List ℕ → List ℕ → ℕ → Type 0
Ready b zs t k = (length t ≤ cap) × (b ≡ true → Holds zs t k)
