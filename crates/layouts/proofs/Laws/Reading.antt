-- What is written is read back, and what is read was written so: for every layout. Assumes nothing.
use Rattle.std.specs.Prelude.{◌≡◌, Bool, true, false, not, ◌&&◌, take, drop, T, leb, ltb, eqb}
use Rattle.std.proofs.Math.Path.{refl, ap}
use Rattle.std.proofs.Common.{sym, ◌∙◌, inl, inr, take-append-drop, eq-eqb}
use Prim.Native.Nat.{ℕ, suc, zero, ◌+◌, ◌≤◌, ◌<◌}
use native.Mathlib.Omega.{arith}
use Rattle.std.proofs.Math.Option.{Option, none, some}
use mathlib.Core.List.{List, [], ◌∷◌, ◌++◌, append_assoc, append-nil}
use Rattle.std.proofs.Math.ListN.{length, length-append}
use Rattle.std.proofs.Math.Seq.{take-append_seam, drop-append_seam}
use Rattle.terms.specs.declared.Reason.{Reason}
use Rattle.terms.specs.declared.Reason.TheVariants.{LeftOver}
use Rattle.terms.specs.Answer.{Res, good, Got, got, pick, bind, need, enough, same, finish}
use Rattle.terms.specs.Laws.Answer.{never, clash, good_inj, test, and_l, and_r, is_true, is_false, pick_yes, pick_no, by_bind, by_need, same_eq, same_refl}
use Rattle.heads.specs.Head.{forms, Cut, cut_off, tlv, octets, before}
use Rattle.heads.proofs.Laws.Head.{head-tlv, head_back, length-tlv, unspelled}
use Rattle.contents.specs.Content.{Check, fine, wrong, ask, judge, passes}
use Rattle.contents.specs.Leaves.{Leaf, rule_of, boolean, known_rule, only}
use Rattle.contents.specs.Rules.{yes_byte, boolean_rule, also, only_rule}
use Rattle.contents.proofs.Laws.Leaves.{by_judge, by_ask, passed}
use Rattle.layouts.specs.Layout.{Item, leaf, node, list, wrap, Members, end, ◌▸◌, Member, known, one, maybe, flag, choose, tag_of, Value, Values, Part, All, InOption, InEither, Ok, Oks, OkPart, each, option, either, encode_leaf, critical, encode, encodes, encode_part}
use Rattle.layouts.specs.Fields.{start_of}
use Rattle.layouts.specs.Reading.{next, behind, read_leaf, begins, many, read_option, read_flag, read_either, read, reads, read_part}

-- ---- layouts in which what may be missing cannot be mistaken, what is known is allowed, and no list is too long to count

-- no value of the run begins with the tag
unfoldable pub apart : ℕ → Members → Bool
apart t end = true
apart t (known w ▸ r) = not (eqb w.leaf.tag t)
apart t (one f i ▸ r) = not (eqb (tag_of i) t)
apart t (maybe f i ▸ r) = not (eqb (tag_of i) t) && apart t r
apart t (flag f ▸ r) = not (eqb boolean.tag t) && apart t r
apart t (choose f l g h i j ▸ r) = not (eqb l.tag t)

-- what may be missing is told from what follows it
unfoldable pub tells : Member → Members → Bool
tells (known w) r = true
tells (one f i) r = true
tells (maybe f i) r = apart (tag_of i) r
tells (flag f) r = apart boolean.tag r
tells (choose f l g h i j) r = true

-- how many bytes a run's sheet may have for members that have none in the record
unfoldable pub spare : Members → ℕ
spare end = 0
spare (known w ▸ r) = spare r
spare (one f i ▸ r) = spare r
spare (maybe f i ▸ r) = 4 + spare r
spare (flag f ▸ r) = 5 + spare r
spare (choose f l g h i j ▸ r) = spare r

unfoldable mutual
  pub clear : Item → Bool
  clear (leaf l) = true
  clear (node t r) = leb (spare r) 16 && clears r
  clear (list t e n f i) = ltb n 65536 && clear i
  clear (wrap t i) = clear i

  pub clears : Members → Bool
  clears end = true
  clears (m ▸ r) = tells m r && (clear_part m && clears r)

  pub clear_part : Member → Bool
  clear_part (known w) = passes (known_rule w w.content)
  clear_part (one f i) = clear i
  clear_part (maybe f i) = clear i
  clear_part (flag f) = true
  clear_part (choose f l g h i j) = clear i && clear j

-- ---- what the laws say of a reader and a writer

-- a reader takes what a writer wrote in fewer than `m` bytes, whatever follows
abbrev pub Forward : ℕ → {A : Type 0} → (List ℕ → ℕ → Res (Got A)) → (A → List ℕ) → (A → Type 0) → Type 0
Forward m {A} f e P = (a : A) → P a → (w : List ℕ) (b : ℕ) → length (e a) < m → f (e a ++ w) b ≡ good (got a w (b + length (e a)))

-- what was read from the window `w` at `b` was written so
abbrev pub Written : {A : Type 0} → (A → List ℕ) → (A → Type 0) → List ℕ → ℕ → Got A → Type 0
Written e P w b x = (w ≡ e x.value ++ x.rest) × P x.value × (x.after ≡ b + length (e x.value))

abbrev pub Backward : {A : Type 0} → (List ℕ → ℕ → Res (Got A)) → (A → List ℕ) → (A → Type 0) → Type 0
Backward {A} f e P = (w : List ℕ) (b : ℕ) (x : Got A) → f w b ≡ good x → Written e P w b x

-- two parts in a row
pub glue : (w x y r r' : List ℕ) (p m n : ℕ) → w ≡ x ++ r → r ≡ y ++ r' → m ≡ p + length x → n ≡ m + length y → (w ≡ x ++ y ++ r') × (n ≡ p + length (x ++ y))
glue w x y r r' p m n h k i j =
    (h ∙ ap (λ (z : List ℕ). x ++ z) k ∙ sym (append_assoc x y r'), omega (arith, length-append x y))

-- ---- a leaf

behind-there : (f v w : List ℕ) (b s : ℕ) → behind f b (cut_off (f ++ v) w s) ≡ good (cut_off v w (s + length f))
unfolding behind need
behind-there f v w b s = rw (take-append_seam f v, drop-append_seam f v, is_true (same f f) (same_refl f))

pub behind_back : (f : List ℕ) (b : ℕ) (c v : Cut) → behind f b c ≡ good v → (c.content ≡ f ++ v.content) × (v.rest ≡ c.rest) × (v.start ≡ c.start + length f)
unfolding behind
behind_back f b c v e =
    by_need _ _ _ _ _ e λ h e₁.
    let q : take (length f) c.content ≡ f = same_eq _ _ h in
    rw (← good_inj e₁) (sym (take-append-drop (length f) c.content) ∙ ap (λ (y : List ℕ). y ++ drop (length f) c.content) q, refl, refl)

-- a primitive item's value ends where the item does
pub leaf_ends : (l : Leaf) (v : List ℕ) (b : ℕ) → start_of l v b + length v ≡ b + length (encode_leaf l v)
unfolding encode_leaf
leaf_ends l v b = omega (arith, length-tlv l.tag (l.front ++ v), length-append l.front v)

pub leaf_forward : (l : Leaf) (v w : List ℕ) (b : ℕ) → rule_of l.holds v ≡ fine → length (encode_leaf l v) < unspelled → read_leaf l (encode_leaf l v ++ w) b ≡ good (cut_off v w (start_of l v b))
unfolding read_leaf encode_leaf bind judge
leaf_forward l v w b ok h =
    let f = l.front in
    let n = length-tlv l.tag (f ++ v) in
    rw (head-tlv l.tag (f ++ v) w b (omega arith), behind-there f v w b (b + before (length (f ++ v))), ok)

pub leaf_back : (l : Leaf) (w : List ℕ) (b : ℕ) (v : Cut) → read_leaf l w b ≡ good v
    → (w ≡ encode_leaf l v.content ++ v.rest) × (rule_of l.holds v.content ≡ fine) × (v.start ≡ start_of l v.content b)
unfolding read_leaf encode_leaf
leaf_back l w b x e =
    by_bind _ _ _ e λ c e₁ e₂. by_bind _ _ _ e₂ λ v e₃ e₄. by_judge _ _ _ _ _ e₄ λ ok e₅.
    let q = head_back l.tag w b c e₁ in
    let u = behind_back l.front b c v e₃ in
    rw (← good_inj e₅, ← u.0, u.1) (q.0, ok, u.2 ∙ ap (λ (m : ℕ). m + length l.front) q.1)

pub leaf_next : (l : Leaf) (w : List ℕ) (b : ℕ) (v : Cut) → read_leaf l w b ≡ good v → next v ≡ b + length (encode_leaf l v.content)
leaf_next l w b v e = ap (λ (m : ℕ). m + length v.content) (leaf_back l w b v e).2 ∙ leaf_ends l v.content b

-- a value that has to be one known content
only_back : (r : List ℕ → Check) (k : List ℕ) (n : Reason) (c : List ℕ) → only_rule r k n c ≡ fine → c ≡ k
unfolding only_rule also
only_back r k n c h = go (r c) h
  where
    go : (x : Check) → also x (ask (same c k) n fine) ≡ fine → c ≡ k
    go fine e = by_ask _ _ _ e λ t e₁. same_eq c k t
    go (wrong m y) e = never (cc)

-- ---- a list of items, to the end of the window

-- each value's bytes begin with a tag
abbrev pub Starts : {A : Type 0} → ℕ → (A → List ℕ) → Type 0
Starts {A} t e = (a : A) → (s : List ℕ) × (e a ≡ t ∷ s)

begins-own : {A : Type 0} (t : ℕ) (e : A → List ℕ) → Starts t e → (a : A) (w : List ℕ) → begins t (e a ++ w) ≡ true
unfolding begins
begins-own t e st a w = rw (st a).1 (eq-eqb t t refl)

module _ {A : Type 0} (f : List ℕ → ℕ → Res (Got A)) (e : A → List ℕ) (P : A → Type 0) where
  many_cons : (n : ℕ) (t : ℕ) (s w : List ℕ) (b : ℕ) → w ≡ t ∷ s → many f (suc n) w b ≡ (bind (f w b) λ a. bind (many f n a.rest a.after) λ xs. good (a.value ∷ xs))
  unfolding many
  many_cons n t s w b q = rw q

  pub many_forward : Forward unspelled f e P → (t : ℕ) → Starts t e → (n : ℕ) (xs : List A) → All P xs → length xs ≤ n → (b : ℕ) → length (each e xs) < unspelled → many f n (each e xs) b ≡ good xs
  unfolding many each bind
  many_forward fw t st zero [] ok h b l = refl
  many_forward fw t st zero (x ∷ xs) ok h b l = absurd (omega arith)
  many_forward fw t st (suc n) [] ok h b l = refl
  many_forward fw t st (suc n) (x ∷ xs) ok h b l =
      let m = length-append (e x) (each e xs) in
      many_cons n t ((st x).0 ++ each e xs) (e x ++ each e xs) b (ap (λ (y : List ℕ). y ++ each e xs) (st x).1)
      ∙ rw (fw x ok.0 (each e xs) b (omega arith), many_forward fw t st n xs ok.1 (omega arith) (b + length (e x)) (omega arith))

  pub many_back : Backward f e P → (n : ℕ) (w : List ℕ) (b : ℕ) (xs : List A) → many f n w b ≡ good xs → (w ≡ each e xs) × (length xs ≤ n) × All P xs
  unfolding many each
  many_back bw zero [] b xs q = rw (← good_inj q) (refl, omega arith, tt)
  many_back bw zero (x ∷ w) b xs q = clash q
  many_back bw (suc n) [] b xs q = rw (← good_inj q) (refl, omega arith, tt)
  many_back bw (suc n) (x ∷ w) b xs q =
      by_bind _ _ _ q λ a e₁ e₂. by_bind _ _ _ e₂ λ ys e₃ e₄.
      let u = bw (x ∷ w) b a e₁ in
      let v = many_back bw n a.rest a.after ys e₃ in
      rw (← good_inj e₄) (u.0 ∙ ap (λ (z : List ℕ). e a.value ++ z) v.0, omega (arith, v.1), (u.1, v.2))

  -- ---- an item that may be missing

  pub option_forward : Forward unspelled f e P → (t : ℕ) → Starts t e → (o : Option A) → InOption P o → (w : List ℕ) (b : ℕ) → begins t w ≡ false → length (option e o) < unspelled
      → read_option t f (option e o ++ w) b ≡ good (got o w (b + length (option e o)))
  unfolding read_option option bind pick
  option_forward fw t st none ok w b q l = rw q (ap (λ (m : ℕ). good (got none w m)) (omega arith))
  option_forward fw t st (some a) ok w b q l = rw (begins-own t e st a w, fw a ok w b l)

  pub option_back : Backward f e P → (t : ℕ) → Backward (read_option t f) (option e) (InOption P)
  unfolding read_option option
  option_back bw t w b x q =
      test (begins t w)
      (λ h. by_bind _ _ _ (sym (pick_yes (begins t w) _ _ h) ∙ q) λ a e₁ e₂. rw (← good_inj e₂) (bw w b a e₁))
      (λ h. rw (← good_inj (sym (pick_no (begins t w) _ _ h) ∙ q)) (refl, tt, omega arith))

-- ---- the flag

abbrev yes : List ℕ
yes = yes_byte

boolean-yes : boolean_rule yes ≡ fine
unfolding boolean_rule same ask
boolean-yes = refl

-- a BOOLEAN that is there is TRUE
pub yes_back : (c : List ℕ) → boolean_rule c ≡ fine → c ≡ yes_byte
unfolding boolean_rule
yes_back c h = by_ask _ _ _ h λ t e. same_eq c yes t

begins_leaf : (l : Leaf) (v w : List ℕ) → begins l.tag (encode_leaf l v ++ w) ≡ true
unfolding begins encode_leaf tlv
begins_leaf l v w = eq-eqb l.tag l.tag refl

pub flag_forward : (v : Bool) (w : List ℕ) (b : ℕ) → begins boolean.tag w ≡ false → length (critical v) < unspelled → read_flag (critical v ++ w) b ≡ good (got v w (b + length (critical v)))
unfolding read_flag critical bind pick
flag_forward true w b q h = rw (begins_leaf boolean yes w, leaf_forward boolean yes w b boolean-yes h) (ap (λ (m : ℕ). good (got true w m)) (leaf_ends boolean yes b))
flag_forward false w b q h = rw q (ap (λ (m : ℕ). good (got false w m)) (omega arith))

pub flag_back : Backward read_flag critical (λ v. Unit {0})
unfolding read_flag critical
flag_back w b x q =
    test (begins boolean.tag w)
    (λ h. by_bind _ _ _ (sym (pick_yes (begins boolean.tag w) _ _ h) ∙ q) λ c e₁ e₂.
    let u = leaf_back boolean w b c e₁ in
    let v = yes_back c.content u.1 in
    rw (← good_inj e₂) (rw v at u.0, tt, leaf_next boolean w b c e₁ ∙ ap (λ (y : List ℕ). b + length (encode_leaf boolean y)) v))
    (λ h. rw (← good_inj (sym (pick_no (begins boolean.tag w) _ _ h) ∙ q)) (refl, tt, omega arith))

-- ---- one of two items

module _ {A B : Type 0} (f : List ℕ → ℕ → Res (Got A)) (e : A → List ℕ) (P : A → Type 0) (g : List ℕ → ℕ → Res (Got B)) (d : B → List ℕ) (Q : B → Type 0) (t : Bool) where
  pub either_forward : (m : ℕ) → Forward m f e P → Forward m g d Q → Forward m (read_either t f g) (either e d) (InEither t P Q)
  unfolding read_either either bind
  either_forward m fw gw (inl a) ok w b l = pick_yes t _ _ ok.0 ∙ rw (fw a ok.1 w b l)
  either_forward m fw gw (inr a) ok w b l = pick_no t _ _ ok.0 ∙ rw (gw a ok.1 w b l)

  pub either_back : Backward f e P → Backward g d Q → Backward (read_either t f g) (either e d) (InEither t P Q)
  unfolding read_either either
  either_back fw gw w b x q =
      test t
      (λ h. by_bind _ _ _ (sym (pick_yes t _ _ h) ∙ q) λ a e₁ e₂. let u = fw w b a e₁ in rw (← good_inj e₂) (u.0, (h, u.1), u.2))
      (λ h. by_bind _ _ _ (sym (pick_no t _ _ h) ∙ q) λ a e₁ e₂. let u = gw w b a e₁ in rw (← good_inj e₂) (u.0, (h, u.1), u.2))

-- ---- what bytes begin with

pub starts : (i : Item) → Starts (tag_of i) (λ v. encode i v)
unfolding encode encode_leaf tlv
starts (leaf l) v = (octets forms (length (l.front ++ v)) ++ (l.front ++ v), refl)
starts (node t r) v = (octets forms (length (encodes r v)) ++ encodes r v, refl)
starts (list t e n f i) vs = (octets forms (length (each (λ v. encode i v) vs)) ++ each (λ v. encode i v) vs, refl)
starts (wrap t i) v = (octets forms (length (encode i v)) ++ encode i v, refl)

-- a value of the item does not begin with another tag
begins-other : (t : ℕ) (i : Item) (v : Value i) (w : List ℕ) → T (not (eqb (tag_of i) t)) → begins t (encode i v ++ w) ≡ false
unfolding begins
begins-other t i v w h = rw (starts i v).1 (is_false (eqb (tag_of i) t) h)

begins-tlv : (t u : ℕ) (c w : List ℕ) → T (not (eqb u t)) → begins t (tlv u c ++ w) ≡ false
unfolding begins tlv
begins-tlv t u c w h = is_false (eqb u t) h

begins-option : {A : Type 0} (t : ℕ) (e : A → List ℕ) (o : Option A) (w : List ℕ) → begins t w ≡ false → ((a : A) → begins t (e a ++ w) ≡ false) → begins t (option e o ++ w) ≡ false
unfolding option
begins-option t e none w p q = p
begins-option t e (some a) w p q = q a

begins-critical : (t : ℕ) (v : Bool) (w : List ℕ) → begins t w ≡ false → T (not (eqb boolean.tag t)) → begins t (critical v ++ w) ≡ false
unfolding critical encode_leaf
begins-critical t true w p q = begins-tlv t boolean.tag yes w q
begins-critical t false w p q = p

begins-apart : (t : ℕ) (r : Members) (v : Values r) → T (apart t r) → begins t (encodes r v) ≡ false
unfolding begins encodes encode_leaf apart
begins-apart t end v h = refl
begins-apart t (known w ▸ r) v h = begins-tlv t w.leaf.tag w.content (encodes r v.1) h
begins-apart t (one f i ▸ r) v h = begins-other t i v.0 (encodes r v.1) h
begins-apart t (maybe f i ▸ r) v h =
    begins-option t (λ x. encode i x) v.0 (encodes r v.1)
    (begins-apart t r v.1 (and_r (not (eqb (tag_of i) t)) (apart t r) h))
    (λ x. begins-other t i x (encodes r v.1) (and_l (not (eqb (tag_of i) t)) (apart t r) h))
begins-apart t (flag f ▸ r) v h =
    begins-critical t v.0 (encodes r v.1)
    (begins-apart t r v.1 (and_r (not (eqb boolean.tag t)) (apart t r) h))
    (and_l (not (eqb boolean.tag t)) (apart t r) h)
begins-apart t (choose f l g k i j ▸ r) v h =
    rw (append_assoc (encode_leaf l v.0.0) (either (λ x. encode i x) (λ x. encode j x) v.0.1) (encodes r v.1))
    (begins-tlv t l.tag (l.front ++ v.0.0) (either (λ x. encode i x) (λ x. encode j x) v.0.1 ++ encodes r v.1) h)

-- what follows a member that may be missing does not begin as it does
abbrev Follows : Member → List ℕ → Type 0
Follows (known k) w = Unit {0}
Follows (one f i) w = Unit {0}
Follows (maybe f i) w = begins (tag_of i) w ≡ false
Follows (flag f) w = begins boolean.tag w ≡ false
Follows (choose f l g h i j) w = Unit {0}

follows : (m : Member) (r : Members) (v : Values r) → T (tells m r) → Follows m (encodes r v)
unfolding tells
follows (known w) r v h = tt
follows (one f i) r v h = tt
follows (maybe f i) r v h = begins-apart (tag_of i) r v h
follows (flag f) r v h = begins-apart boolean.tag r v h
follows (choose f l g k i j) r v h = tt

enough-each : {A : Type 0} (t : ℕ) (e : A → List ℕ) → Starts t e → (k : Bool) (xs : List A) → T (enough k xs) → T (enough k (each e xs))
unfolding enough each
enough-each t e st true xs h = tt
enough-each t e st false [] h = h
enough-each t e st false (x ∷ xs) h = rw (st x).1 tt

-- ---- what is written is read back

mutual
  unfolding read encode clear bind need finish same

  pub forward : (i : Item) → T (clear i) → Forward unspelled (λ w b. read i w b) (λ v. encode i v) (λ v. Ok i v)
  forward (leaf l) k v ok w b h = rw (leaf_forward l v w b ok h) (ap (λ (m : ℕ). good (got v w m)) (leaf_ends l v b))
  forward (node t r) k v ok w b h =
      let m = length-tlv t (encodes r v) in
      rw (head-tlv t (encodes r v) w b (omega arith), forwards r (and_r (leb (spare r) 16) (clears r) k) v ok (b + before (length (encodes r v))) (omega arith))
      (ap (λ (m : ℕ). good (got v w m)) (omega arith))
  forward (list t e n f i) k vs ok w b h =
      let c : List ℕ = each (λ v. encode i v) vs in
      let m = length-tlv t c in
      rw (
        head-tlv t c w b (omega arith),
        is_true (enough e c) (enough-each (tag_of i) (λ v. encode i v) (starts i) e vs ok.0),
        many_forward (λ x p. read i x p) (λ v. encode i v) (λ v. Ok i v) (λ v o x p q. forward i (and_r (ltb n 65536) (clear i) k) v o x p q) (tag_of i) (starts i) n vs ok.2 ok.1 (b + before (length c)) (omega arith),
      )
      (ap (λ (m : ℕ). good (got vs w m)) (omega arith))
  forward (wrap t i) k v ok w b h =
      let m = length-tlv t (encode i v) in
      let s : read i (encode i v) (b + before (length (encode i v))) ≡ good (got v [] (b + before (length (encode i v)) + length (encode i v))) =
      rw append-nil at (forward i k v ok [] (b + before (length (encode i v))) (omega arith)) in
      rw (head-tlv t (encode i v) w b (omega arith), s) (ap (λ (m : ℕ). good (got v w m)) (omega arith))

  pub forwards : (r : Members) → T (clears r) → (v : Values r) → Oks r v → (b : ℕ) → length (encodes r v) < unspelled → reads r (encodes r v) b ≡ good v
  forwards end k v ok b h = refl
  forwards (m ▸ r) k v ok b h =
      let n = length-append (encode_part m v.0) (encodes r v.1) in
      let k' = and_r (tells m r) (clear_part m && clears r) k in
      rw (
        forward_part m (and_l (clear_part m) (clears r) k') v.0 ok.0 (encodes r v.1) b (follows m r v.1 (and_l (tells m r) (clear_part m && clears r) k)) (omega arith),
        forwards r (and_r (clear_part m) (clears r) k') v.1 ok.1 (b + length (encode_part m v.0)) (omega arith),
      )

  pub forward_part : (m : Member) → T (clear_part m) → (v : Part m) → OkPart m v → (w : List ℕ) (b : ℕ) → Follows m w → length (encode_part m v) < unspelled
      → read_part m (encode_part m v ++ w) b ≡ good (got v w (b + length (encode_part m v)))
  forward_part (known x) k v ok w b q h =
      rw (leaf_forward (only x) x.content w b (passed (known_rule x x.content) k) h) (ap (λ (m : ℕ). good (got v w m)) (leaf_ends (only x) x.content b))
  forward_part (one f i) k v ok w b q h = forward i k v ok w b h
  forward_part (maybe f i) k v ok w b q h =
      option_forward (λ x p. read i x p) (λ x. encode i x) (λ x. Ok i x) (λ x o w p q. forward i k x o w p q) (tag_of i) (starts i) v ok w b q h
  forward_part (flag f) k v ok w b q h = flag_forward v w b q h
  forward_part (choose f l t g i j) k v ok w b q h =
      let x : List ℕ = encode_leaf l v.0 in
      let y : List ℕ = either (λ x. encode i x) (λ x. encode j x) v.1 in
      let m = length-append x y in
      rw (
        append_assoc x y w,
        leaf_forward l v.0 (y ++ w) b ok.0 (omega arith),
        leaf_ends l v.0 b,
        either_forward (λ x p. read i x p) (λ x. encode i x) (λ x. Ok i x) (λ x p. read j x p) (λ x. encode j x) (λ x. Ok j x) (t v.0) unspelled
            (λ x o w p q. forward i (and_l (clear i) (clear j) k) x o w p q) (λ x o w p q. forward j (and_r (clear i) (clear j) k) x o w p q)
            v.1 ok.1 w (b + length x) (omega arith),
      )
      (ap (λ (m : ℕ). good (got v w m)) (omega arith))

-- ---- what is read was written so

enough_back : {A : Type 0} (e : A → List ℕ) (k : Bool) (xs : List A) → T (enough k (each e xs)) → T (enough k xs)
unfolding enough each
enough_back e true xs h = tt
enough_back e false [] h = h
enough_back e false (x ∷ xs) h = tt

pub finish_back : {A : Type 0} (n : Reason) (a : Got A) (v : A) → finish n a ≡ good v → (a.rest ≡ []) × (a.value ≡ v)
unfolding finish
finish_back n a v q = by_need _ _ _ _ _ q λ h e. (same_eq a.rest [] h, good_inj e)

mutual
  unfolding read encode

  pub backward : (i : Item) → Backward (λ w b. read i w b) (λ v. encode i v) (λ v. Ok i v)
  backward (leaf l) w b x q =
      by_bind _ _ _ q λ a e₁ e₂. let u = leaf_back l w b a e₁ in rw (← good_inj e₂) (u.0, u.1, leaf_next l w b a e₁)
  backward (node t r) w b x q =
      by_bind _ _ _ q λ c e₁ e₂. by_bind _ _ _ e₂ λ v e₃ e₄.
      let u = head_back t w b c e₁ in
      let s = backwards r c.content c.start v e₃ in
      let n = length-tlv t c.content in
      rw (← good_inj e₄, ← s.0) (u.0, s.1, omega arith)
  backward (list t e n f i) w b x q =
      by_bind _ _ _ q λ c e₁ e₂. by_need _ _ _ _ _ e₂ λ h e₃. by_bind _ _ _ e₃ λ vs e₄ e₅.
      let u = head_back t w b c e₁ in
      let s = many_back (λ x p. read i x p) (λ v. encode i v) (λ v. Ok i v) (λ y p z g. backward i y p z g) n c.content c.start vs e₄ in
      let m = length-tlv t c.content in
      let h' : T (enough e vs) = enough_back (λ v. encode i v) e vs (rw s.0 at h) in
      rw (← good_inj e₅, ← s.0) (u.0, (h', s.1, s.2), omega arith)
  backward (wrap t i) w b x q =
      by_bind _ _ _ q λ c e₁ e₂. by_bind _ _ _ e₂ λ a e₃ e₄. by_bind _ _ _ e₄ λ z e₅ e₆.
      let u = head_back t w b c e₁ in
      let s = backward i c.content c.start a e₃ in
      let f = finish_back LeftOver a z e₅ in
      let y : c.content ≡ encode i a.value = s.0 ∙ ap (λ (z : List ℕ). encode i a.value ++ z) f.0 ∙ append-nil (encode i a.value) in
      let n = length-tlv t c.content in
      rw (← good_inj e₆, ← f.1, ← y) (u.0, s.1, omega arith)

  pub backwards : (r : Members) (w : List ℕ) (b : ℕ) (v : Values r) → reads r w b ≡ good v → (w ≡ encodes r v) × Oks r v
  backwards end w b v q = ((finish_back LeftOver (got tt w b) v q).0, tt)
  backwards (m ▸ r) w b v q =
      by_bind _ _ _ q λ a e₁ e₂. by_bind _ _ _ e₂ λ x e₃ e₄.
      let u = backward_part m w b a e₁ in
      let s = backwards r a.rest a.after x e₃ in
      rw (← good_inj e₄) (u.0 ∙ ap (λ (z : List ℕ). encode_part m a.value ++ z) s.0, (u.1, s.1))

  pub backward_part : (m : Member) → Backward (λ w b. read_part m w b) (λ v. encode_part m v) (λ v. OkPart m v)
  backward_part (known y) w b x q =
      by_bind _ _ _ q λ a e₁ e₂.
      let u = leaf_back (only y) w b a e₁ in
      let v = only_back (rule_of y.leaf.holds) y.content y.other a.content u.1 in
      rw (← good_inj e₂) (rw v at u.0, tt, leaf_next (only y) w b a e₁ ∙ ap (λ (z : List ℕ). b + length (encode_leaf (only y) z)) v)
  backward_part (one f i) w b x q = backward i w b x q
  backward_part (maybe f i) w b x q = option_back (λ x p. read i x p) (λ x. encode i x) (λ x. Ok i x) (λ y p z g. backward i y p z g) (tag_of i) w b x q
  backward_part (flag f) w b x q = flag_back w b x q
  backward_part (choose f l t g i j) w b x q =
      by_bind _ _ _ q λ c e₁ e₂. by_bind _ _ _ e₂ λ a e₃ e₄.
      let y = leaf_back l w b c e₁ in
      let u = either_back (λ x p. read i x p) (λ x. encode i x) (λ x. Ok i x) (λ x p. read j x p) (λ x. encode j x) (λ x. Ok j x) (t c.content) (λ y p z g. backward i y p z g) (λ y p z g. backward j y p z g) c.rest (next c) a e₃ in
      let z = glue w (encode_leaf l c.content) (either (λ x. encode i x) (λ x. encode j x) a.value) c.rest a.rest b (next c) a.after y.0 u.0 (leaf_next l w b c e₁) u.2 in
      rw (← good_inj e₄) (z.0, (y.1, u.1), z.1)

-- ---- from the two laws

-- no value's bytes go on to another's
pub prefix_free : (i : Item) → T (clear i) → (u v : Value i) (x y : List ℕ) → Ok i u → Ok i v → length (encode i u) < unspelled → length (encode i v) < unspelled
    → encode i u ++ x ≡ encode i v ++ y → (u ≡ v) × (x ≡ y)
prefix_free i k u v x y p q h h' e =
    let g = good_inj (sym (forward i k u p x 0 h) ∙ ap (λ (w : List ℕ). read i w 0) e ∙ forward i k v q y 0 h') in
    (ap (λ (z : Got (Value i)). z.value) g, ap (λ (z : Got (Value i)). z.rest) g)

-- two allowed values are written alike only where they are equal
pub injective : (i : Item) → T (clear i) → (u v : Value i) → Ok i u → Ok i v → length (encode i u) < unspelled → encode i u ≡ encode i v → u ≡ v
injective i k u v p q h e =
    let h' : length (encode i v) < unspelled = rw (← e) h in
    (prefix_free i k u v [] [] p q h h' (ap (λ (w : List ℕ). w ++ []) e)).0
