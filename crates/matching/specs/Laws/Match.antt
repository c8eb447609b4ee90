-- The entry that is found is the first of the record's fields that equals the given bytes. Assumes nothing.
use Rattle.std.specs.Prelude.{◌≡◌, ◌⊎◌, Bool, not, drop, T, Ok, Err, Some, None}
use Rattle.std.proofs.Math.Path.{refl, sym, ap, ap₂}
use Rattle.std.proofs.Common.{◌∙◌, subst, inl, inr, lt-ltb, le-ltb}
use Prim.Native.Nat.{ℕ, suc, zero, ◌+◌, ◌-◌, ◌≤◌, ◌<◌}
use native.Mathlib.Omega.{arith}
use Rattle.std.proofs.Math.Bool.{true, false}
use Rattle.std.proofs.Math.Option.{Option, some}
use mathlib.Core.List.{List, [], ◌∷◌, ◌++◌}
use Rattle.std.proofs.Math.ListN.{length, length-append}
use Rattle.std.proofs.Math.Seq.{slice, length-slice, take-length, drop_at}
use Rattle.terms.specs.declared.Field.{Field}
use Rattle.terms.specs.declared.Field.TheVariants.{ListKind, CertificateList, ListedCertificate, ListedEntry, ListedDigest}
use Rattle.terms.specs.Names.{same_name}
use Rattle.terms.specs.Numbers.{most_items, largest_record}
use Rattle.terms.specs.Answer.{good, pick, same, never_empty, Answer}
use Rattle.terms.specs.Laws.Answer.{and_l, or_r, is_true, is_false}
use Rattle.terms.specs.declared.Refusal.{Refusal}
use Rattle.heads.specs.Head.{forms, tlv, before, cut_off, head}
use Rattle.heads.proofs.Laws.Head.{unspelled, head-tlv, length-tlv}
use Rattle.heads.specs.Scan.{seen, head_at, span}
use Rattle.heads.specs.declared.Span.{Span}
use Rattle.contents.specs.Integer.{is_kind, says_kind1}
use Rattle.contents.specs.Leaves.{Leaf, integer, octet_string}
use Rattle.layouts.specs.Layout.{Item, leaf, node, list, Members, Value, Values, All, InEither, Ok as Allows, each, either, encode_leaf, encode, encode_part}
use Rattle.layouts.specs.Fields.{Entry, entry, list_entry, start_of, each_fields, either_fields, item_fields, part_fields, fields, is_field, first, Stands}
use Rattle.layouts.specs.Places.{Placed}
use Rattle.layouts.proofs.Laws.Fields.{stands_within, stands_cut, all_append, past, leaf_stands}
use Rattle.layouts.proofs.Laws.Way.{first_skip, first_stop, Asks, Holds}
use Rattle.layouts.proofs.Laws.Scan.{head-parts}
use Rattle.layouts.specs.Whole.{sequence, accept, told_outcome}
use Rattle.layouts.proofs.Laws.Whole.{accept_back}
use Rattle.records.specs.Record.{digest, certificates, digests, kind_and_list}
use Rattle.records.specs.declared.Record.{Record}
use Rattle.records.specs.Handing.{layout_of, told_record, read_record, fields_of, is_one_of, is_listed, match_answer, told_part, told_place}
use Rattle.records.specs.Laws.Handing.{fields_in_lem, one_of_alike, asked_name}
use Rattle.records.specs.Laws.List.{list_fields, of_list, list_in}
use Rattle.records.specs.declared.Part.{Part}
use Rattle.records.specs.Found.{Found, part}
use Rattle.fields.specs.Handed.{part_of, part_under}
use Rattle.fields.specs.Laws.{within-yes, numbers_part, told_part_lem, sought_told, sought-read, was_read, placed_in}
use Rattle.searches.specs.Match.{entry_at, of_seen, listed_at, bytes_at, match_under}

-- a written item at the front of a window: where its content lies, and what is left
module _ (s : List ℕ) (t p e : ℕ) (c rest : List ℕ) where
  abbrev from : ℕ
  from = p + before (length c)

  head_window : p ≤ e → e ≤ length s → length c < unspelled → slice p e s ≡ tlv t c ++ rest
      → (head_at t s p e ≡ Ok (span from (from + length c))) × (c ≡ slice from (from + length c) s) × (rest ≡ slice (from + length c) e s) × (from + length c ≤ e)
  unfolding head_at
  head_window pe es l h =
      let g : head forms t (slice p e s) p ≡ good (cut_off c rest from) = ap (λ (w : List ℕ). head forms t w p) h ∙ head-tlv t c rest p l in
      let q = head-parts s t p e pe es (cut_off c rest from) g in
      (ap seen g, q.0, q.1, q.3)

-- an entry at the front of a window: the bytes that are compared, where they start, and that they are its only field that is
record Compared (g : List ℕ) (k : Bool) (s : List ℕ) (e p : ℕ) (x rest : List ℕ) (name : Field) (j : ℕ) (fs : List Entry) : Type 0 where
  bytes : List ℕ
  start : ℕ
  entry_is : entry_at k s p e ≡ Ok (span start (p + length x))
  holds : slice start (p + length x) s ≡ bytes
  size : p + length x - start ≡ length bytes
  left : slice (p + length x) e s ≡ rest
  ends : p + length x ≤ e
  begins : p < e
  field : (ys : List Entry) → first (is_listed g) (fs ++ ys) ≡ pick (same g bytes) (some (entry name j start bytes)) (first (is_listed g) ys)

-- what is told of one of two, by a test
picked : (b : Bool) (x : Entry) (y : Found Part) (o : Option Entry) → y ≡ part_of (good o) → pick b (Ok (Some (part x.place (length x.bytes)))) y ≡ part_of (good (pick b (some x) o))
unfolding pick
picked true x y o h = refl
picked false x y o h = h

-- one entry, then those after it
one_more_lem : (g : List ℕ) (k : Bool) (s : List ℕ) (e p : ℕ) (x rest : List ℕ) (name : Field) (j : ℕ) (fs : List Entry) → Compared g k s e p x rest name j fs
    → (n : ℕ) (ys : List Entry) → listed_at g k s e n (p + length x) ≡ part_of (good (first (is_listed g) ys)) → listed_at g k s e (suc n) p ≡ part_of (good (first (is_listed g) (fs ++ ys)))
unfolding listed_at pick
one_more_lem g k s e p x rest name j fs c n ys r =
    rw (lt-ltb p e c.begins, c.entry_is, c.holds, c.size, c.field ys) (picked (same g c.bytes) (entry name j c.start c.bytes) (listed_at g k s e n (p + length x)) (first (is_listed g) ys) r)

-- entries to the end of a window
module _ (g : List ℕ) (k : Bool) (s : List ℕ) (e : ℕ) (es : e ≤ length s) {A : Type 0} (enc : A → List ℕ) (f : ℕ → A → ℕ → List Entry) (name : Field)
    (item : (j : ℕ) (a : A) (p : ℕ) (rest : List ℕ) → p ≤ e → length (enc a) < unspelled → slice p e s ≡ enc a ++ rest → Compared g k s e p (enc a) rest name j (f j a p)) where
  no_more : (n p : ℕ) → p ≤ e → slice p e s ≡ [] → listed_at g k s e n p ≡ (Ok None)
  unfolding listed_at pick
  no_more zero p pe h = refl
  no_more (suc n) p pe h = let l : length (slice p e s) ≡ e - p = length-slice p e s es in let z : length (slice p e s) ≡ 0 = ap length h in rw (le-ltb p e (omega arith))

  listed-each : (xs : List A) (n : ℕ) → length xs ≤ n → length (each enc xs) < unspelled → (j p : ℕ) → p ≤ e → slice p e s ≡ each enc xs
      → listed_at g k s e n p ≡ part_of (good (first (is_listed g) (each_fields f enc j xs p)))
  unfolding each each_fields first
  listed-each [] n l b j p pe h = no_more n p pe h
  listed-each (x ∷ xs) zero l b j p pe h = absurd (omega arith)
  listed-each (x ∷ xs) (suc n) l b j p pe h =
      let m = length-append (enc x) (each enc xs) in
      let c = item j x p (each enc xs) pe (omega arith) h in
      let r = listed-each xs n (omega arith) (omega arith) (suc j) (p + length (enc x)) c.ends c.left in
      one_more_lem g k s e p (enc x) (each enc xs) name j (f j x p) c n (each_fields f enc (suc j) xs (p + length (enc x))) r

-- a header has bytes
before_some : (n : ℕ) → 0 < before n
before_some n = omega arith

-- the entries of a list of kind 1 and of kind 2
abbrev certificate : Item
certificate = leaf (octet_string never_empty)

abbrev entry_item : Item
entry_item = node sequence digest

-- a certificate
module _ (g s : List ℕ) (e : ℕ) (es : e ≤ length s) where
  certificate_compared : (j : ℕ) (v : List ℕ) (p : ℕ) (rest : List ℕ) → p ≤ e → length (encode certificate v) < unspelled → slice p e s ≡ encode certificate v ++ rest
      → Compared g true s e p (encode certificate v) rest ListedCertificate j (item_fields certificate ListedCertificate j v p)
  unfolding encode encode_leaf item_fields first is_listed pick entry_at
  certificate_compared j v p rest pe l h =
      let n = length-tlv 0x04 v in
      let b = before_some (length v) in
      let w = head_window s 0x04 p e v rest pe es (omega arith) h in
      let z : p + before (length v) + length v ≡ p + length (tlv 0x04 v) = omega arith in
      let q : p + before (length v) ≡ start_of (octet_string never_empty) v p = omega arith in
      record {
        bytes = v;
        start = start_of (octet_string never_empty) v p;
        entry_is = rw (← q, ← z) w.0;
        holds = rw (← q, ← z) (sym w.1);
        size = omega arith;
        left = rw (← z) (sym w.2);
        ends = omega (arith, w.3);
        begins = omega (arith, w.3);
        field = λ ys. refl;
      }

  -- a digest, after its type
  digest_compared : (j : ℕ) (v : Values digest) (p : ℕ) (rest : List ℕ) → p ≤ e → length (encode entry_item v) < unspelled → slice p e s ≡ encode entry_item v ++ rest
      → Compared g false s e p (encode entry_item v) rest ListedDigest j (item_fields entry_item ListedEntry j v p)
  unfolding encode encode_leaf item_fields first is_listed pick entry_at
  digest_compared j v p rest pe l h =
      let x = tlv 0x13 v.0 in
      let y = tlv 0x04 v.1.0 in
      let c : List ℕ = x ++ (y ++ []) in
      let n = length-tlv sequence c in
      let nx = length-tlv 0x13 v.0 in
      let ny = length-tlv 0x04 v.1.0 in
      let m = length-append x (y ++ []) in
      let m' = length-append y [] in
      let w = head_window s sequence p e c rest pe es (omega arith) h in
      let a : ℕ = p + before (length c) in
      let z : ℕ = a + length c in
      let w₁ = head_window s 0x13 a z v.0 (y ++ []) (omega arith) (omega (arith, w.3)) (omega arith) (sym w.1) in
      let b : ℕ = a + before (length v.0) + length v.0 in
      let w₂ = head_window s 0x04 b z v.1.0 [] w₁.3 (omega (arith, w.3)) (omega arith) (sym w₁.2) in
      let k : z ≡ p + length (tlv sequence c) = omega arith in
      let k' : b + before (length v.1.0) + length v.1.0 ≡ z = omega arith in
      let q : b + before (length v.1.0) ≡ start_of (octet_string never_empty) v.1.0 (p + before (length c) + length x) = omega arith in
      record {
        bytes = v.1.0;
        start = start_of (octet_string never_empty) v.1.0 (p + before (length c) + length x);
        entry_is = let f : ℕ → ℕ → Answer Span = λ x y. Ok (span x y) in rw (w.0, w₁.0) (w₂.0 ∙ ap₂ f q (k' ∙ k));
        holds = ap₂ (λ (i j : ℕ). slice i j s) (sym q) (sym (k' ∙ k)) ∙ sym w₂.1;
        size = omega arith;
        left = rw (← k) (sym w.2);
        ends = omega (arith, w.3);
        begins = omega (arith, w.3);
        field = λ ys. refl;
      }

-- ---- the list of a record

-- the bytes of a part that stands in a record
bytes-there : (w : List ℕ) (x : Entry) → Stands w x → bytes_at w (Ok (Some (part x.place (length x.bytes)))) ≡ x.bytes
bytes-there w x h = rw (within-yes (length w) x.place (length x.bytes) (stands_within w x h)) (stands_cut w x h)

-- no field of an item is asked for where none of each is
each_none : {A : Type 0} (q : Entry → Bool) (enc : A → List ℕ) (f : ℕ → A → ℕ → List Entry) → ((j : ℕ) (a : A) (p : ℕ) → All (λ y. T (not (q y))) (f j a p))
    → (j : ℕ) (xs : List A) (p : ℕ) → All (λ y. T (not (q y))) (each_fields f enc j xs p)
unfolding each_fields
each_none q enc f h j [] p = tt
each_none q enc f h j (x ∷ xs) p = all_append (λ y. T (not (q y))) (f j x p) (each_fields f enc (suc j) xs (p + length (enc x))) (h j x p) (each_none q enc f h (suc j) xs (p + length (enc x)))

-- what is asked for in it is of the list
asks-field : (f : Field) → T (of_list f) → Asks of_list (is_field f 0)
asks-field f t x h = subst T (one_of_alike list_fields f x.name (asked_name f 0 x h)) t

asks-listed : (g : List ℕ) → Asks of_list (is_listed g)
unfolding is_listed
asks-listed g x h =
    or_r (same_name ListKind x.name) _ (or_r (same_name CertificateList x.name) _ (and_l (is_one_of (ListedCertificate ∷ ListedDigest ∷ []) x.name) _ h))

-- a list that stands at `p`
module _ (g w : List ℕ) (k : Bool) (i : Item) (each-name name : Field)
    (item : (e : ℕ) → e ≤ length w → (j : ℕ) (v : Value i) (p : ℕ) (rest : List ℕ) → p ≤ e → length (encode i v) < unspelled → slice p e w ≡ encode i v ++ rest
    → Compared g k w e p (encode i v) rest name j (item_fields i each-name j v p))
    (others : (j : ℕ) (v : Value i) (p : ℕ) → All (λ y. T (not (is_field CertificateList 0 y))) (item_fields i each-name j v p)) where
  abbrev listed : Item
  listed = list sequence never_empty most_items each-name i

  module _ (vs : Value listed) (earlier later : List ℕ) (h : w ≡ earlier ++ (encode listed vs ++ later)) (l : length w < unspelled) (n : length vs ≤ most_items) where
    abbrev here : List Entry
    here = item_fields listed CertificateList 0 vs (length earlier)

    -- the list is the one that is asked for
    list_there : first (is_field CertificateList 0) here ≡ some (list_entry CertificateList 0 (length earlier) (encode listed vs) (length vs))
    unfolding item_fields encode first is_field pick
    list_there =
        first_skip (is_field CertificateList 0) (each_fields (λ j v p. item_fields i each-name j v p) (λ v. encode i v) 0 vs _) _
        (each_none (is_field CertificateList 0) (λ v. encode i v) (λ j v p. item_fields i each-name j v p) others 0 vs _)

    -- and its entries those that are compared
    list_found : of_seen (head_at sequence w (length earlier) (length w)) (λ a z. listed_at g k w z most_items a) ≡ part_of (good (first (is_listed g) here))
    unfolding item_fields encode is_listed
    list_found =
        let c : List ℕ = each (λ v. encode i v) vs in
        let p = length earlier in
        let a = p + before (length c) in
        let m = ap length h ∙ length-append earlier (tlv sequence c ++ later) ∙ ap (λ (x : ℕ). p + x) (length-append (tlv sequence c) later) in
        let m' = length-tlv sequence c in
        let q : slice p (length w) w ≡ tlv sequence c ++ later = ap (drop p) (take-length w ∙ h) ∙ drop_at earlier (tlv sequence c ++ later) p refl in
        let r = head_window w sequence p (length w) c later (omega arith) (omega arith) (omega arith) q in
        rw r.0
        (listed-each g k w (a + length c) r.3 (λ v. encode i v) (λ j v p. item_fields i each-name j v p) name (λ j v p rest. item (a + length c) r.3 j v p rest) vs most_items n (omega arith) 0 a (omega arith) (sym r.1)
        ∙ ap (λ (o : Option Entry). part_of (good o)) (sym (first_stop (is_listed g) (each_fields (λ j v p. item_fields i each-name j v p) (λ v. encode i v) 0 vs a) _ (tt, tt))))

    -- so that what the table leads to is what is sought
    list_matched : (xs : List Entry) (d : List ℕ) → Placed 0 xs d → says_kind1 (bytes_at w (part_under ListKind d)) ≡ k
        → first (is_field CertificateList 0) xs ≡ first (is_field CertificateList 0) here → first (is_listed g) xs ≡ first (is_listed g) here
        → match_under g w d ≡ part_of (good (first (is_listed g) xs))
    unfolding match_under
    list_matched xs d pl c u v =
        let y = numbers_part CertificateList d (first (is_field CertificateList 0) xs) (pl.1 CertificateList) ∙ ap (λ (o : Option Entry). part_of (good o)) (u ∙ list_there) in
        rw (y, c, v) list_found

-- ---- a record

module _ (g w : List ℕ) (xs : List Entry) (d : List ℕ) (pl : Placed 0 xs d) (l : length w < unspelled) where
  abbrev kind : Leaf
  kind = integer is_kind

  module _ (kv : List ℕ) (s : Value certificates ⊎ Value digests) (earlier later : List ℕ)
      (h : w ≡ earlier ++ ((encode_leaf kind kv ++ either (λ v. encode certificates v) (λ v. encode digests v) s) ++ later))
      (alike : (q : Entry → Bool) → Asks of_list q → first q xs ≡ first q (part_fields kind_and_list 0 (kv, s) (length earlier))) where
    -- the kind
    kind-told : says_kind1 (bytes_at w (part_under ListKind d)) ≡ says_kind1 kv
    unfolding part_fields first is_field pick
    kind-told =
        let k = past w earlier (encode_leaf kind kv) _ later h in
        let e = entry ListKind 0 (start_of kind kv (length earlier)) kv in
        ap (λ (y : Found Part). says_kind1 (bytes_at w y)) (numbers_part ListKind d (first (is_field ListKind 0) xs) (pl.1 ListKind) ∙ ap (λ (o : Option Entry). part_of (good o)) (alike (is_field ListKind 0) (asks-field ListKind tt)))
        ∙ ap says_kind1 (bytes-there w e (leaf_stands w earlier _ ListKind 0 kind kv k.0))

  matched : (kv : List ℕ) (s : Value certificates ⊎ Value digests) → InEither (says_kind1 kv) (λ v. Allows certificates v) (λ v. Allows digests v) s → (earlier later : List ℕ)
      → w ≡ earlier ++ ((encode_leaf kind kv ++ either (λ v. encode certificates v) (λ v. encode digests v) s) ++ later)
      → ((q : Entry → Bool) → Asks of_list q → first q xs ≡ first q (part_fields kind_and_list 0 (kv, s) (length earlier)))
      → match_under g w d ≡ part_of (good (first (is_listed g) xs))
  unfolding either part_fields either_fields first is_field is_listed pick
  matched kv (inl vs) o earlier later h alike =
      let k = past w earlier (encode_leaf kind kv) (encode certificates vs) later h in
      list_matched g w true certificate ListedCertificate ListedCertificate (λ e es j v p rest. certificate_compared g w e es j v p rest) (λ j v p. (tt, tt)) vs (earlier ++ encode_leaf kind kv) later k.1 l o.1.1
      xs d pl (kind-told kv (inl vs) earlier later h alike ∙ is_true (says_kind1 kv) o.0)
      (alike (is_field CertificateList 0) (asks-field CertificateList tt) ∙ ap (λ (b : ℕ). first (is_field CertificateList 0) (item_fields certificates CertificateList 0 vs b)) (sym k.2))
      (alike (is_listed g) (asks-listed g) ∙ ap (λ (b : ℕ). first (is_listed g) (item_fields certificates CertificateList 0 vs b)) (sym k.2))
  matched kv (inr vs) o earlier later h alike =
      let k = past w earlier (encode_leaf kind kv) (encode digests vs) later h in
      list_matched g w false entry_item ListedEntry ListedDigest (λ e es j v p rest. digest_compared g w e es j v p rest) (λ j v p. (tt, (tt, (tt, tt)))) vs (earlier ++ encode_leaf kind kv) later k.1 l o.1.1
      xs d pl (kind-told kv (inr vs) earlier later h alike ∙ is_false (says_kind1 kv) o.0)
      (alike (is_field CertificateList 0) (asks-field CertificateList tt) ∙ ap (λ (b : ℕ). first (is_field CertificateList 0) (item_fields digests CertificateList 0 vs b)) (sym k.2))
      (alike (is_listed g) (asks-listed g) ∙ ap (λ (b : ℕ). first (is_listed g) (item_fields digests CertificateList 0 vs b)) (sym k.2))

  held_matched : Holds of_list kind_and_list w xs → match_under g w d ≡ part_of (good (first (is_listed g) xs))
  unfolding encode_part
  held_matched h = matched h.value.0 h.value.1 h.ok.1 h.earlier h.later h.written h.alike

-- what the table of an accepted record leads to is the first equal entry
pub match_is : (x : Record) (w g : List ℕ) (v : Values (layout_of x)) → read_record (layout_of x) w ≡ good v → (d : List ℕ) → Placed 0 (fields (layout_of x) v) d
    → match_under g w d ≡ part_of (good (first (is_listed g) (fields (layout_of x) v)))
match_is x w g v a d p =
    let (b, c, l) = accept_back largest_record (layout_of x) w v a in
    held_matched g w (fields (layout_of x) v) d p (omega arith) (subst (λ (s : List ℕ). Holds of_list kind_and_list s (fields (layout_of x) v)) (sym b) (list_in x v c))

-- and what is sought in a record that was read
module _ (x : Record) (w g : List ℕ) (m : Members) (i : m ≡ layout_of x) (o : Answer ℕ) (t : told_outcome o ≡ told_record largest_record m w) where
  pub match_read : (n : ℕ) (d : List ℕ) (y : Found Part) → o ≡ Ok n → Placed 0 (fields_of m (accept largest_record m w)) d → y ≡ match_under g w d → told_part y ≡ match_answer (layout_of x) g w
  match_read n d y q p e =
      let (v, a) = was_read (layout_of x) w m i o t n q in
      let f = fields_in_lem (layout_of x) w v a in
      let z = match_is x w g v a d (rw f at (placed_in (layout_of x) w m i o t 0 d p)) in
      rw (sought-read (layout_of x) w m i o t n q (is_listed g), f) (ap told_part (e ∙ z) ∙ told_part_lem (good (first (is_listed g) (fields (layout_of x) v))))

  pub match_refused_told : (e : Refusal) → o ≡ Err e → told_part (Err e) ≡ match_answer (layout_of x) g w
  match_refused_told e q = sought_told (layout_of x) w m i o t e q (is_listed g) told_place
