-- A part of a day's slices that holds whole accounts, c of them from account a on: its accounts are those of the day. An element of a part is one of
-- the whole, further on by the part's start, and an account's row is a part of a part.
use mathlib.Core.Path.{◌≡◌, sym, ◌∙◌}
use Prim.Native.Nat.{ℕ, ◌+◌, ◌*◌, ◌≤◌, ◌<◌}
use native.Mathlib.Nat.{mul-le-mul_right}
use native.Mathlib.Omega.{arith}
use lib.ListN.{length, get_or, take, drop}
use Rattle.std.proofs.lemmas.List.FromFn.{fill_by_all}
use Rattle.numbers.proofs.Lists.{part_length, part_at, part_part}
use Rattle.methodology.specs.Account.{DayInput, nobody, account_at, accounts}
use Rattle.methodology.proofs.RowLimits.{accounts_long}
use Rattle.validation.specs.Slices.{no_account}
use Rattle.validation.proofs.Amounts.{accounts_at}

-- the accounts, of the part read as a day
abbrev pub part : (k : ℕ) → DayInput → (a c : ℕ) → DayInput
part k d a c =
    record {
      terms = d.terms;
      headings = take c (drop a d.headings);
      npvs = take (c * (k + 1)) (drop (a * (k + 1)) d.npvs);
      margins = take c (drop a d.margins);
      extras = take c (drop a d.extras);
    }

module _ (k : ℕ) (d : DayInput) (a c : ℕ) (h : a + c ≤ length d.headings) where
  part_account_at : (i : ℕ) → i < c → get_or (take c (drop a (accounts k d))) i no_account ≡ account_at k (part k d a c) i
  unfolding account_at
  part_account_at i l =
      let w = k + 1 in
      let row : i * w + w ≤ c * w = omega (arith, mul-le-mul_right w l) in
      let from : (a + i) * w ≡ a * w + i * w = omega arith in
      let row_part = part_part (a * w) (c * w) (i * w) w d.npvs row in
      part_at a c (accounts k d) i no_account l
      ∙ accounts_at k d (a + i) (omega arith)
      ∙ rw (part_at a c d.headings i nobody l, row_part, part_at a c d.margins i 0 l, part_at a c d.extras i 0 l, from)

  pub accounts_part : accounts k (part k d a c) ≡ take c (drop a (accounts k d))
  unfolding accounts
  accounts_part =
      let count : length (part k d a c).headings ≡ c = part_length a c d.headings h in
      let long : length (take c (drop a (accounts k d))) ≡ c = part_length a c (accounts k d) (omega (arith, accounts_long k d)) in
      let table = fill_by_all (account_at k (part k d a c)) (take c (drop a (accounts k d))) c no_account long part_account_at in
      rw count (sym table)
