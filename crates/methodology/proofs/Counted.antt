-- The days that count (document 02, Change 4): a day more is one of them where it has losses, and changes nothing where it has none.
use mathlib.Core.Path.{◌≡◌, refl}
use mathlib.Core.Bool.{Bool, true, false, cond}
use mathlib.Core.List.{List, [], ◌∷◌, ◌++◌}
use Prim.Native.Nat.{ℕ, ◌+◌, ◌<◌}
use native.Mathlib.Omega.{arith}
use lib.ListN.{length}
use borrow.Author.Tests.{ltb-true}
use Rattle.std.specs.List.{filter, AllByRecursion}
use Rattle.numbers.specs.Sums.{Σ}
use Rattle.numbers.proofs.Lists.{◌∈◌, keep_append, keep_cons, keep_cons_skip, keep_none, keep_all, every_mem, mem_keep}
use Rattle.methodology.specs.declared.Opening.{Opening}
use Rattle.methodology.specs.Member.{loss}
use Rattle.methodology.specs.Day.{total, share}
use Rattle.methodology.specs.Contribution.{KeptDay, counts, counted, sum_of_shares}

module _ (o : Opening) where
  pub counted_cons : (d : KeptDay) (days : List KeptDay) → counts (total o d.accounts) ≡ true → counted o (d ∷ days) ≡ d ∷ counted o days
  unfolding counted
  counted_cons d days = keep_cons _ d days

  pub counted_skip : (d : KeptDay) (days : List KeptDay) → counts (total o d.accounts) ≡ false → counted o (d ∷ days) ≡ counted o days
  unfolding counted
  counted_skip d days = keep_cons_skip _ d days

  -- so D takes it in, or not
  pub number_counted : (d : KeptDay) (days : List KeptDay)
      → length (counted o (d ∷ days)) ≡ cond (counts (total o d.accounts)) (length (counted o days) + 1) (length (counted o days))
  unfolding counted
  number_counted d days = by (counts (total o d.accounts)) (filter (λ d. counts (total o d.accounts)) days)
    where
      by : (t : Bool) (kept : List KeptDay) → length (cond t (d ∷ kept) kept) ≡ cond t (length kept + 1) (length kept)
      by true kept = omega arith
      by false kept = refl

  -- and so does a member's sum its share
  pub sum_cons : (d : KeptDay) (days : List KeptDay) (m : ℕ) → counts (total o d.accounts) ≡ true
      → sum_of_shares o (d ∷ days) m ≡ share (loss o.k d.accounts m) (total o d.accounts) + sum_of_shares o days m
  unfolding sum_of_shares Σ
  sum_cons d days m e = rw (counted_cons d days e) refl

  pub sum_skip : (d : KeptDay) (days : List KeptDay) (m : ℕ) → counts (total o d.accounts) ≡ false
      → sum_of_shares o (d ∷ days) m ≡ sum_of_shares o days m
  unfolding sum_of_shares
  sum_skip d days m e = rw (counted_skip d days e) refl

  pub counted_append : (later earlier : List KeptDay) → counted o (later ++ earlier) ≡ counted o later ++ counted o earlier
  unfolding counted
  counted_append = keep_append _

  -- each of them has losses
  pub counted_some : {d : KeptDay} (days : List KeptDay) → d ∈ counted o days → 0 < total o d.accounts
  unfolding counted
  counted_some days m = ltb-true 0 _ (mem_keep _ days m).1

  -- so each of them counts
  pub counted_again : (days : List KeptDay) → counted o (counted o days) ≡ counted o days
  unfolding counted
  counted_again days = keep_all _ (counted o days) (λ d m. (mem_keep _ days m).1)

  -- where there is no day, or none has any, none counts
  pub counted_nil : counted o [] ≡ []
  unfolding counted
  counted_nil = refl

  pub counted_none : (days : List KeptDay) → AllByRecursion (λ d. total o d.accounts ≡ 0) days → counted o days ≡ []
  unfolding counted
  counted_none days none = keep_none _ days (λ d m. rw (every_mem _ days none d m))
