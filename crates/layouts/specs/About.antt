-- What a refusal is about: the innermost field that was being read when the first fault was found. Assumes nothing.
-- Of an item's head, and of its own rule, it is the item; of an item of one content, and of bytes left over, the structure that they stand in;
-- of the outermost head, and of bytes after the record, the record.
use Rattle.std.specs.Prelude.{ℕ, suc, zero, List, [], ◌∷◌}
use Rattle.terms.specs.declared.Field.{Field}
use Rattle.terms.specs.Answer.{Res, Got, pick, unread}
use Rattle.heads.specs.Head.{forms, head, outermost}
use Rattle.layouts.specs.Layout.{Item, leaf, node, list, wrap, Members, end, ◌▸◌, Member, known, one, maybe, flag, choose}
use Rattle.layouts.specs.Reading.{next, read_leaf, read, read_part}
use Rattle.layouts.specs.Whole.{sequence, accept}
use Rattle.layouts.specs.declared.Whose.{Whose}
use Rattle.layouts.specs.declared.Whose.TheVariants.{Nothing, Record, Field as field}

-- the items of a list, at most `n`: the first that is refused; where none is, the list itself, which has none or too many
unfoldable pub about_many : {A : Type 0} → (List ℕ → ℕ → Res (Got A)) → (List ℕ → ℕ → Whose) → Whose → ℕ → List ℕ → ℕ → Whose
about_many f g x zero w b = x
about_many f g x (suc n) [] b = x
about_many f g x (suc n) (y ∷ w) b = unread (f (y ∷ w) b) (g (y ∷ w) b) λ a. about_many f g x n a.rest a.after

unfoldable mutual
  -- an item that is refused, under its name
  pub about : Item → Field → List ℕ → ℕ → Whose
  about (leaf l) f w b = field f
  about (node t r) f w b = unread (head forms t w b) (field f) λ c. about_all r (field f) c.content c.start
  about (list t e n g i) f w b = unread (head forms t w b) (field f) λ c. about_many (λ x p. read i x p) (λ x p. about i g x p) (field f) n c.content c.start
  about (wrap t i) f w b = unread (head forms t w b) (field f) λ c. unread (read i c.content c.start) (about i f c.content c.start) λ a. field f

  -- the members of `x`
  pub about_all : Members → Whose → List ℕ → ℕ → Whose
  about_all end x w b = x
  about_all (m ▸ r) x w b = unread (read_part m w b) (about_part m x w b) λ a. about_all r x a.rest a.after

  pub about_part : Member → Whose → List ℕ → ℕ → Whose
  about_part (known k) x w b = x
  about_part (one f i) x w b = about i f w b
  about_part (maybe f i) x w b = about i f w b
  about_part (flag f) x w b = field f
  about_part (choose f l t g i j) x w b = unread (read_leaf l w b) (field f) λ c. pick (t c.content) (about i g c.rest (next c)) (about j g c.rest (next c))

-- a record that is the whole input: nothing where it is accepted
unfoldable pub record_about : ℕ → Members → List ℕ → Whose
record_about most r w = unread (accept most r w) (unread (outermost forms most sequence w 0) Record λ c. about_all r Record c.content c.start) λ v. Nothing
