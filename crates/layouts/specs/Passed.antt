-- The fields of a record up to where it is refused: each item that was read, and each structure whose head was read. Assumes nothing.
use Rattle.std.specs.Prelude.{ℕ, suc, zero, List, [], ◌∷◌, ◌++◌, length}
use Rattle.terms.specs.declared.Field.{Field}
use Rattle.terms.specs.declared.Reason.TheVariants.{NoItem}
use Rattle.terms.specs.Answer.{Res, Got, pick, unread, need, enough}
use Rattle.heads.specs.Head.{forms, head, outermost, tlv}
use Rattle.contents.specs.Leaves.{Leaf, boolean}
use Rattle.layouts.specs.Layout.{Item, leaf, node, list, wrap, Members, end, ◌▸◌, Member, known, one, maybe, flag, choose, tag_of}
use Rattle.layouts.specs.Reading.{next, read_leaf, begins, many, read, read_part}
use Rattle.layouts.specs.Whole.{sequence}
use Rattle.layouts.specs.Fields.{Entry, entry, list_entry}

-- the fields of what was read; where it is refused there are none
abbrev pub of_read : {A : Type 0} → Res A → (A → List Entry) → List Entry
of_read r k = unread r [] k

unfoldable pub passed_leaf : Leaf → Field → ℕ → List ℕ → ℕ → List Entry
passed_leaf l f k w b = of_read (read_leaf l w b) λ c. entry f k c.start c.content ∷ []

-- the items of a list, at most `n`, from index `k` on
unfoldable pub passed_many : {A : Type 0} → (List ℕ → ℕ → Res (Got A)) → (ℕ → List ℕ → ℕ → List Entry) → ℕ → ℕ → List ℕ → ℕ → List Entry
passed_many f g zero k w b = []
passed_many f g (suc n) k [] b = []
passed_many f g (suc n) k (y ∷ w) b = g k (y ∷ w) b ++ (of_read (f (y ∷ w) b) λ a. passed_many f g n (suc k) a.rest a.after)

unfoldable mutual
  pub passed : Item → Field → ℕ → List ℕ → ℕ → List Entry
  passed (leaf l) f k w b = passed_leaf l f k w b
  passed (node t r) f k w b = of_read (head forms t w b) λ c. entry f k b (tlv t c.content) ∷ passed_all r k c.content c.start
  passed (list t e n g i) f k w b =
      of_read (head forms t w b) λ c.
      passed_many (λ x p. read i x p) (λ j x p. passed i g j x p) n 0 c.content c.start
      ++ (of_read (need (enough e c.content) NoItem b (many (λ x p. read i x p) n c.content c.start)) λ vs. list_entry f k b (tlv t c.content) (length vs) ∷ [])
  passed (wrap t i) f k w b = of_read (head forms t w b) λ c. passed i f k c.content c.start

  pub passed_all : Members → ℕ → List ℕ → ℕ → List Entry
  passed_all end k w b = []
  passed_all (m ▸ r) k w b = passed_part m k w b ++ (of_read (read_part m w b) λ a. passed_all r k a.rest a.after)

  pub passed_part : Member → ℕ → List ℕ → ℕ → List Entry
  passed_part (known x) k w b = []
  passed_part (one f i) k w b = passed i f k w b
  passed_part (maybe f i) k w b = pick (begins (tag_of i) w) (passed i f k w b) []
  passed_part (flag f) k w b = pick (begins boolean.tag w) (passed_leaf boolean f k w b) []
  passed_part (choose f l t g i j) k w b =
      passed_leaf l f k w b ++ (of_read (read_leaf l w b) λ c. pick (t c.content) (passed i g k c.rest (next c)) (passed j g k c.rest (next c)))

-- of a record that is the whole input: where it is accepted, all its fields (`Laws.Passing`)
unfoldable pub record_passed : ℕ → Members → List ℕ → List Entry
record_passed most r w = of_read (outermost forms most sequence w 0) λ c. passed_all r 0 c.content c.start
