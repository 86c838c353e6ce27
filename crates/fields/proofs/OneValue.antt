-- The value of the field at the front of a text waits on the byte that ends it.
use Rattle.std.proofs.Common.{◌≡◌, ℕ, Bool, true, false, cond, List, length, ◌≤◌, arith, eq-eqb, ne_eqb}
use Rattle.std.specs.Prelude.{Option, None, Some}
use Rattle.std.proofs.lemmas.Option.{none-some}
use lib.ListN.{get_or-eq_default}
use Rattle.fields.specs.Fields.{stops, size, front, ender, value_of, value_at}
use Rattle.fields.proofs.Fronts.{stop_is}

module _ (lettered : Bool) (end : ℕ) (s : List ℕ) where
  pub its_end : ender s ≡ end → value_at lettered end s ≡ value_of lettered (front s)
  unfolding value_at
  its_end e = rw (eq-eqb (ender s) end e)

  pub other_end : (ender s ≡ end → ⊥) → value_at lettered end s ≡ None
  unfolding value_at
  other_end n = rw (ne_eqb (ender s) end n)

  pub no_end : stops end ≡ true → length s ≤ size s → value_at lettered end s ≡ None
  no_end t h = other_end (λ e. let z = get_or-eq_default s 0 h in omega (arith, stop_is end t))

-- what is there only where a test holds
pub where_held : {A : Type 0} (t : Bool) (o : Option A) (x : A) → cond t o None ≡ Some x → o ≡ Some x
where_held true o x e = e
where_held false o x e = absurd (none-some x e)
