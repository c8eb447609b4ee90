-- Reading by a layout: "Items are read left to right, outer before inner; the first fault answers." Assumes nothing.
-- A window is the bytes up to the encloser's end; its offset counts from the start of the input.
use Rattle.std.specs.Prelude.{◌⊎◌, ℕ, suc, zero, ◌+◌, Bool, true, false, List, [], ◌∷◌, length, take, drop, eqb}
use Rattle.std.proofs.Common.{inl, inr}
use Rattle.std.proofs.Math.Option.{Option, none, some}
use Rattle.terms.specs.declared.Reason.TheVariants.{LeftOver, BadBits, NoItem, TooManyItems}
use Rattle.terms.specs.Answer.{Res, good, fault, Got, got, pick, bind, need, enough, same, finish}
use Rattle.heads.specs.Head.{forms, Cut, cut_off, head}
use Rattle.contents.specs.Content.{judge}
use Rattle.contents.specs.Leaves.{Leaf, rule_of, boolean, only}
use Rattle.layouts.specs.Layout.{Item, leaf, node, list, wrap, Members, end, ◌▸◌, Member, known, one, maybe, flag, choose, tag_of, Value, Values, Part}

-- where what follows an item starts
abbrev pub next : Cut → ℕ
next c = c.start + length c.content

-- what stands behind the bytes that a content must begin with: "bit string empty, or first byte not 00"
unfoldable pub behind : List ℕ → ℕ → Cut → Res Cut
behind f b c = need (same (take (length f) c.content) f) BadBits b (good (cut_off (drop (length f) c.content) c.rest (c.start + length f)))

-- a primitive item, its value as the content: its head, what it must begin with, then its own rule
unfoldable pub read_leaf : Leaf → List ℕ → ℕ → Res Cut
read_leaf l w b = bind (head forms l.tag w b) λ c. bind (behind l.front b c) λ v. judge (rule_of l.holds v.content) b v.start (good v)

-- whether a window begins with a tag
unfoldable pub begins : ℕ → List ℕ → Bool
begins t [] = false
begins t (x ∷ w) = eqb x t

-- items to the end of the window, at most `n`: "a 65th item in a list, of any tag; place: its tag"
unfoldable pub many : {A : Type 0} → (List ℕ → ℕ → Res (Got A)) → ℕ → List ℕ → ℕ → Res (List A)
many f zero [] b = good []
many f zero (x ∷ w) b = fault TooManyItems b
many f (suc n) [] b = good []
many f (suc n) (x ∷ w) b = bind (f (x ∷ w) b) λ a. bind (many f n a.rest a.after) λ xs. good (a.value ∷ xs)

-- "An optional item is absent if nothing is left or another tag stands there"
unfoldable pub read_option : {A : Type 0} → ℕ → (List ℕ → ℕ → Res (Got A)) → List ℕ → ℕ → Res (Got (Option A))
read_option t f w b = pick (begins t w) (bind (f w b) λ a. good (got (some a.value) a.rest a.after)) (good (got none w b))

unfoldable pub read_flag : List ℕ → ℕ → Res (Got Bool)
read_flag w b = pick (begins boolean.tag w) (bind (read_leaf boolean w b) λ c. good (got true c.rest (next c))) (good (got false w b))

unfoldable pub read_either : {A B : Type 0} → Bool → (List ℕ → ℕ → Res (Got A)) → (List ℕ → ℕ → Res (Got B)) → List ℕ → ℕ → Res (Got (A ⊎ B))
read_either t f g w b = pick t (bind (f w b) λ a. good (got (inl a.value) a.rest a.after)) (bind (g w b) λ a. good (got (inr a.value) a.rest a.after))

unfoldable mutual
  pub read : (i : Item) → List ℕ → ℕ → Res (Got (Value i))
  read (leaf l) w b = bind (read_leaf l w b) λ c. good (got c.content c.rest (next c))
  read (node t r) w b = bind (head forms t w b) λ c. bind (reads r c.content c.start) λ v. good (got v c.rest (next c))
  read (list t e n f i) w b =
      bind (head forms t w b) λ c.
      need (enough e c.content) NoItem b
      (bind (many (λ x p. read i x p) n c.content c.start) λ vs. good (got vs c.rest (next c)))
  read (wrap t i) w b = bind (head forms t w b) λ c. bind (read i c.content c.start) λ a. bind (finish LeftOver a) λ v. good (got v c.rest (next c))

  pub reads : (r : Members) → List ℕ → ℕ → Res (Values r)
  reads end w b = finish LeftOver (got tt w b)
  reads (m ▸ r) w b = bind (read_part m w b) λ a. bind (reads r a.rest a.after) λ v. good (a.value, v)

  pub read_part : (m : Member) → List ℕ → ℕ → Res (Got (Part m))
  read_part (known k) w b = bind (read_leaf (only k) w b) λ c. good (got tt c.rest (next c))
  read_part (one f i) w b = read i w b
  read_part (maybe f i) w b = read_option (tag_of i) (λ x p. read i x p) w b
  read_part (flag f) w b = read_flag w b
  read_part (choose f l t g i j) w b =
      bind (read_leaf l w b) λ c.
      bind (read_either (t c.content) (λ x p. read i x p) (λ x p. read j x p) c.rest (next c)) λ a.
      good (got (c.content, a.value) a.rest a.after)
