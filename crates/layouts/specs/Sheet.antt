-- The field sheet (01, "The field sheet"): "sections in a fixed order, each after its count, four bytes, big-endian". Assumes nothing.
use Rattle.std.specs.Prelude.{ℕ, suc, zero, ◌+◌, Bool, true, false, ◌||◌, List, [], ◌∷◌, ◌++◌, length, take, drop, leb, eqb}
use Rattle.std.proofs.Math.Option.{Option, none, some}
use Rattle.terms.specs.declared.Reason.TheVariants.{NoItem, TooManyItems, BadSheet}
use Rattle.terms.specs.Answer.{Res, good, Got, got, pick, bind, need, have, same}
use Rattle.terms.specs.Digits.{digits, leading}
use Rattle.heads.specs.Head.{Cut, cut_off}
use Rattle.contents.specs.Content.{judge}
use Rattle.contents.specs.Leaves.{Leaf, rule_of, section_of, value_in}
use Rattle.layouts.specs.Layout.{Item, leaf, node, list, wrap, Members, end, ◌▸◌, Member, known, one, maybe, flag, choose, Value, Values, Part, each, either}
use Rattle.layouts.specs.Reading.{next, read_either}

-- ---- writing

-- how many bytes a count has
abbrev pub count_bytes : ℕ
count_bytes = 4

unfoldable pub count : ℕ → List ℕ
count n = digits 256 count_bytes n

unfoldable pub section : List ℕ → List ℕ
section x = count (length x) ++ x

-- "critical, of one byte 0 or 1"
unfoldable pub critical_byte : Bool → List ℕ
critical_byte true = 1 ∷ []
critical_byte false = 0 ∷ []

-- "An optional field has count 0 or 1, then itself."
unfoldable pub sheet_option : {A : Type 0} → (A → List ℕ) → Option A → List ℕ
sheet_option f none = count 0
sheet_option f (some a) = count 1 ++ f a

-- "A list's count is its items, each then in sections."
unfoldable pub sheet_list : {A : Type 0} → (A → List ℕ) → List A → List ℕ
sheet_list f xs = count (length xs) ++ each f xs

unfoldable mutual
  pub sheet : (i : Item) → Value i → List ℕ
  sheet (leaf l) v = section (section_of l.holds v)
  sheet (node t r) v = sheets r v
  sheet (list t e n f i) vs = sheet_list (λ v. sheet i v) vs
  sheet (wrap t i) v = sheet i v

  pub sheets : (r : Members) → Values r → List ℕ
  sheets end v = []
  sheets (m ▸ r) v = sheet_part m v.0 ++ sheets r v.1

  pub sheet_part : (m : Member) → Part m → List ℕ
  sheet_part (known k) v = []
  sheet_part (one f i) v = sheet i v
  sheet_part (maybe f i) v = sheet_option (λ x. sheet i x) v
  sheet_part (flag f) v = section (critical_byte v)
  sheet_part (choose f l t g i j) v = section (section_of l.holds v.0) ++ either (λ x. sheet i x) (λ x. sheet j x) v.1

-- ---- reading: 19 before a section's own rule

unfoldable pub read_count : List ℕ → ℕ → Res (ℕ × List ℕ)
read_count w p = have (leading count_bytes w) BadSheet p

-- a section's bytes, what stands after it, and where its bytes start
unfoldable pub read_section : List ℕ → ℕ → Res Cut
read_section w p = bind (read_count w p) λ n. need (leb n.0 (length n.1)) BadSheet p (good (cut_off (take n.0 n.1) (drop n.0 n.1) (p + count_bytes)))

unfoldable pub fill_leaf : Leaf → List ℕ → ℕ → Res (Got (List ℕ))
fill_leaf l w p = bind (read_section w p) λ c. bind (have (value_in l.holds c.content) BadSheet p) λ v. judge (rule_of l.holds v) p c.start (good (got v c.rest (next c)))

unfoldable pub times : {A : Type 0} → (List ℕ → ℕ → Res (Got A)) → ℕ → List ℕ → ℕ → Res (Got (List A))
times f zero w p = good (got [] w p)
times f (suc n) w p = bind (f w p) λ a. bind (times f n a.rest a.after) λ xs. good (got (a.value ∷ xs.value) xs.rest xs.after)

unfoldable pub critical_in : List ℕ → Option Bool
critical_in x = pick (same x (0 ∷ [])) (some false) (pick (same x (1 ∷ [])) (some true) none)

unfoldable pub fill_flag : List ℕ → ℕ → Res (Got Bool)
fill_flag w p = bind (read_section w p) λ c. bind (have (critical_in c.content) BadSheet p) λ v. good (got v c.rest (next c))

unfoldable pub fill_option : {A : Type 0} → (List ℕ → ℕ → Res (Got A)) → List ℕ → ℕ → Res (Got (Option A))
fill_option f w p =
    bind (read_count w p) λ n.
    pick (eqb n.0 0) (good (got none n.1 (p + count_bytes)))
    (need (eqb n.0 1) BadSheet p (bind (f n.1 (p + count_bytes)) λ a. good (got (some a.value) a.rest a.after)))

-- 15 and 16 stand at the list's count
unfoldable pub fill_list : {A : Type 0} → Bool → ℕ → (List ℕ → ℕ → Res (Got A)) → List ℕ → ℕ → Res (Got (List A))
fill_list e m f w p =
    bind (read_count w p) λ n.
    need (e || leb 1 n.0) NoItem p (need (leb n.0 m) TooManyItems p (times f n.0 n.1 (p + count_bytes)))

unfoldable mutual
  pub fill : (i : Item) → List ℕ → ℕ → Res (Got (Value i))
  fill (leaf l) w p = fill_leaf l w p
  fill (node t r) w p = fills r w p
  fill (list t e n f i) w p = fill_list e n (λ x q. fill i x q) w p
  fill (wrap t i) w p = fill i w p

  pub fills : (r : Members) → List ℕ → ℕ → Res (Got (Values r))
  fills end w p = good (got tt w p)
  fills (m ▸ r) w p = bind (fill_part m w p) λ a. bind (fills r a.rest a.after) λ v. good (got (a.value, v.value) v.rest v.after)

  pub fill_part : (m : Member) → List ℕ → ℕ → Res (Got (Part m))
  fill_part (known k) w p = good (got tt w p)
  fill_part (one f i) w p = fill i w p
  fill_part (maybe f i) w p = fill_option (λ x q. fill i x q) w p
  fill_part (flag f) w p = fill_flag w p
  fill_part (choose f l t g i j) w p =
      bind (fill_leaf l w p) λ c.
      bind (read_either (t c.value) (λ x q. fill i x q) (λ x q. fill j x q) c.rest c.after) λ a.
      good (got (c.value, a.value) a.rest a.after)
