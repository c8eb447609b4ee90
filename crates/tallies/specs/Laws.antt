-- Critical and counts by a table of places. Assumes nothing.
use Rattle.std.specs.Prelude.{◌≡◌, ℕ, eqb, Ok, Some, None}
use Rattle.std.proofs.Math.Path.{refl, ap}
use Rattle.std.proofs.Common.{◌∙◌}
use Rattle.std.proofs.Math.Bool.{not}
use Rattle.std.proofs.Math.Option.{Option, none, some}
use mathlib.Core.List.{List}
use Rattle.std.proofs.Math.ListN.{get_or}
use Rattle.terms.specs.declared.Field.{Field}
use Rattle.terms.specs.Numbers.{done}
use Rattle.terms.specs.Answer.{good, pick, told_one}
use Rattle.layouts.specs.Fields.{Entry, is_field, first, is_there}
use Rattle.layouts.specs.Places.{under, numbers_of, Placed}
use Rattle.records.specs.Handing.{tell, told_critical, told_is, told_items}
use Rattle.tallies.specs.Tally.{is_under, critical_under, count_under}

-- what stands under a name
module _ (f : Field) (d : List ℕ) where
  there-under : (o : Option Entry) → under f d ≡ numbers_of o → is_under f d ≡ is_there o
  unfolding is_under under is_there
  there-under o h = ap (λ (x : List ℕ). not (eqb (get_or x 0 0) 0)) h ∙ go o
    where
      go : (o : Option Entry) → not (eqb (get_or (numbers_of o) 0 0) 0) ≡ is_there o
      go none = refl
      go (some x) = refl

  -- how many items
  pub count-told : (o : Option Entry) → under f d ≡ numbers_of o → told_items (count_under f d) ≡ tell (λ x. told_one done x.items) (good o)
  unfolding count_under under pick is_there
  count-told none h = rw (there-under none h)
  count-told (some x) h = rw (there-under (some x) h, ap (λ (y : List ℕ). get_or y 3 0) h)

-- whether it is critical
pub critical-told : (item flag : Field) (k : ℕ) (xs : List Entry) (d : List ℕ) → Placed k xs d → told_is (critical_under item flag d) ≡ tell (told_critical flag k xs) (good (first (is_field item k) xs))
unfolding critical_under pick is_there
critical-told item flag k xs d p = rw (there-under item d (first (is_field item k) xs) (p.1 item), there-under flag d (first (is_field flag k) xs) (p.1 flag)) (go (first (is_field item k) xs))
  where
    go : (o : Option Entry) → told_is (pick (is_there o) (Ok (Some (is_there (first (is_field flag k) xs)))) (Ok None)) ≡ tell (told_critical flag k xs) (good o)
    go none = refl
    go (some x) = refl
