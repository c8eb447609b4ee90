-- What a read puts into a buffer behind what it holds already.
use Rattle.std.proofs.Common.{◌≡◌, ℕ, ◌+◌, ◌≤◌, List, ◌++◌, length, take, drop, sym, ap, ◌∙◌, subst, le_refl, drop_at, length-take-le}
use Rattle.std.specs.Prelude.{Option}
use Rattle.std.specs.Io.KnownBytes.{Consumes}
use Rattle.std.proofs.KnownBytes.{Consumes-trans}
use Rattle.std.proofs.lemmas.Slice.{take-put_mid_below}
use borrow.Rule.Slice.PartMut.{put_mid, post_of}
use lib.Seq.{take-add, take-append-le}

module _ (n room k : ℕ) (buf part : List ℕ) (within : n ≤ length buf) (fits : k ≤ length part) where
  -- the first bytes of the buffer are those that it held and those that were read
  longer : take (n + k) (put_mid n room buf part) ≡ take n buf ++ take k part
  longer =
      let rest = ap (take k) (drop_at (take n buf) (part ++ post_of n room buf) n (length-take-le n buf within)) ∙ take-append-le k part (post_of n room buf) fits in
      take-add n k (put_mid n room buf part) ∙ ap (λ l. l ++ take k (drop n (put_mid n room buf part))) (take-put_mid_below n room buf part n (le_refl n) within) ∙ ap (λ l. take n buf ++ l) rest

  pub read_more : (a b c : Option (List ℕ)) → Consumes a b (take n buf) → Consumes b c (take k part) → Consumes a c (take (n + k) (put_mid n room buf part))
  read_more a b c first second = subst (Consumes a c) (sym longer) (Consumes-trans a b c _ _ first second)
