-- Slices that hold given accounts: all headings, all NPVs, all margins and all extras, account by account. They are read back as they were, and
-- what is asked of slices (`Within`) is asked of each account by itself and of how many there are.
use mathlib.Core.Path.{◌≡◌, refl, sym, ◌∙◌}
use mathlib.Core.List.{List, map, flat_map}
use Prim.Native.Nat.{ℕ, ◌+◌, ◌≤◌, ◌<◌}
use native.Mathlib.Omega.{arith}
use native.Mathlib.Nat.{mul_comm}
use lib.IntN.{ℤ, pos, nat_abs}
use lib.ListN.{length, get_or, get_or-map, length-map}
use Rattle.std.specs.List.{AllByRecursion}
use Rattle.std.proofs.lemmas.List.FromFn.{fill_by_all}
use Rattle.numbers.proofs.Lists.{◌∈◌, mem_at, by_index, every_mem, mem_every, every_flat_map}
use Rattle.numbers.proofs.Rows.{rows_length, rows_part}
use Rattle.methodology.specs.declared.DayTerms.{DayTerms}
use Rattle.methodology.specs.declared.Heading.{Heading}
use Rattle.methodology.specs.Account.{DayInput, Account, account_at, accounts}
use Rattle.methodology.specs.Refusals.{limit}
use Rattle.validation.specs.Slices.{no_account, Within}
use Rattle.exposure.specs.declared.accounts.Accounts.{Accounts}
use Rattle.exposure.specs.AccountsIn.{slices_in, accounts_in}
use Rattle.exposure.proofs.Bounds.{Limited, limited}
use Rattle.any_order.specs.AnyOrder.{AccountWithin}

-- the four slices
abbrev headings : List Account → List Heading
headings xs = map (λ x. x.heading) xs

abbrev npvs : List Account → List ℤ
npvs xs = flat_map (λ x. x.npvs) xs

abbrev margins : List Account → List ℕ
margins xs = map (λ x. x.margin) xs

abbrev extras : List Account → List ℕ
extras xs = map (λ x. x.extra) xs

-- as a day brings them: its terms are any, since no account is read off them
abbrev slices : DayTerms → List Account → DayInput
slices terms xs = record { terms = terms; headings = headings xs; npvs = npvs xs; margins = margins xs; extras = extras xs }

module _ (k : ℕ) (xs : List Account) (all : AllByRecursion (AccountWithin k) xs) where
  each : (i : ℕ) → i < length xs → AccountWithin k (get_or xs i no_account)
  each i l = every_mem (AccountWithin k) xs all (get_or xs i no_account) (mem_at xs no_account l)

  amounts : (i : ℕ) → i < length xs → Limited limit (get_or xs i no_account)
  amounts i l = limited (get_or xs i no_account) (each i l).amounts

  abbrev wide : (x : Account) → x ∈ xs → length x.npvs ≡ k + 1
  wide x m = (every_mem (AccountWithin k) xs all x m).npvs_long

  read_at : (terms : DayTerms) (i : ℕ) → i < length xs → get_or xs i no_account ≡ account_at k (slices terms xs) i
  unfolding account_at
  read_at terms i l =
      let row = rows_part (k + 1) (λ x. x.npvs) xs wide i no_account l in
      rw (
        mul_comm i (k + 1),
        row,
        get_or-map (λ x. x.heading) xs i no_account,
        get_or-map (λ x. x.margin) xs i no_account,
        get_or-map (λ x. x.extra) xs i no_account,
      )
      refl

  read_back : (terms : DayTerms) → accounts k (slices terms xs) ≡ xs
  unfolding accounts
  read_back terms = rw length-map (sym (fill_by_all (account_at k (slices terms xs)) xs (length xs) no_account refl (read_at terms)))

  npvs_near : AllByRecursion (λ z. nat_abs z ≤ limit) (npvs xs)
  npvs_near =
      every_flat_map (λ z. nat_abs z ≤ limit) (λ x. x.npvs) xs
      (λ x m. mem_every (λ z. nat_abs z ≤ limit) x.npvs
      (by_index (λ z. nat_abs z ≤ limit) x.npvs (pos 0) (limited x (every_mem (AccountWithin k) xs all x m).amounts).npv))

  within : length xs ≤ 256 → Within k (headings xs) (npvs xs) (margins xs) (extras xs)
  within few =
      let count = length-map xs (λ x. x.heading) in
      record {
        few = omega (arith, count);
        npvs_long = rw count (rows_length (k + 1) (λ x. x.npvs) xs wide ∙ mul_comm (k + 1) (length xs));
        margins_long = length-map xs (λ x. x.margin) ∙ sym count;
        extras_long = length-map xs (λ x. x.extra) ∙ sym count;
        kind = λ i l. rw (get_or-map (λ x. x.heading) xs i no_account) (each i (omega (arith, count))).kind;
        npv = λ i l. every_mem (λ z. nat_abs z ≤ limit) (npvs xs) npvs_near (get_or (npvs xs) i (pos 0)) (mem_at (npvs xs) (pos 0) l);
        margin = λ i l. rw (get_or-map (λ x. x.margin) xs i no_account) (amounts i (omega (arith, count))).margin;
        extra =
            λ i l. rw (get_or-map (λ x. x.margin) xs i no_account, get_or-map (λ x. x.extra) xs i no_account) (amounts i (omega (arith, count))).extra;
      }

pub every_order : (k : ℕ) (xs : List Account) → k ≤ 16 → length xs ≤ 256 → AllByRecursion (AccountWithin k) xs
    → (a : Accounts) × (a.k ≡ k) × (accounts_in a ≡ xs)
every_order k xs scenarios few all =
    let a : Accounts = record {
      k = k;
      headings = record { ref_ptr = (0, 0); now = headings xs };
      npvs = record { ref_ptr = (0, 0); now = npvs xs };
      margins = record { ref_ptr = (0, 0); now = margins xs };
      extras = record { ref_ptr = (0, 0); now = extras xs };
      within = within k xs all few;
      few = scenarios;
    } in
    (a, refl, read_back k xs all (slices_in a).terms)
