-- An account stored in place j: the day of the first j + 1 accounts is that of the first j with it.
use mathlib.Core.Path.{◌≡◌}
use mathlib.Core.List.{List, [], ◌∷◌, append-nil}
use Prim.Native.Nat.{ℕ, suc, ◌+◌, ◌-◌, ◌*◌, ◌≤◌, ◌<◌}
use native.Mathlib.Omega.{arith}
use native.Mathlib.Nat.{add-mul, one-mul}
use lib.IntN.{ℤ, pos}
use lib.ListN.{length, get_or, take, drop, set, length-take, length-drop}
use Rattle.std.proofs.Common.{drop_of_length-le, take_all, length-take-le, replicate}
use borrow.Rule.Slice.PartMut.{put_mid}
use Rattle.std.proofs.lemmas.List.{take_more_set, length-replicate}
use Rattle.std.proofs.lemmas.Slice.{take-put_mid}
use Rattle.methodology.specs.Text.{AccountLine, with_account}
use Rattle.methodology.specs.declared.DayTerms.{DayTerms}
use Rattle.lines.specs.Forms.{npvs_in}
use Rattle.accounts.specs.declared.Places.{Places}
use Rattle.accounts.specs.AcctLines.{day_read}

-- ---- the part of the NPVs that is lent for account j's

module _ (j k : ℕ) (npvs : List ℤ) where
  -- the index after the part's last
  pub lent_inside : j < 256 → k ≤ 16 → length npvs ≡ 4352 → j * (k + 1) + (k + 1) ≤ length npvs
  lent_inside h l e = grind arith

  pub lent_some : j * (k + 1) + (k + 1) ≤ length npvs → 0 < length (take (j * (k + 1) + (k + 1) - j * (k + 1)) (drop (j * (k + 1)) npvs))
  lent_some inside = simp (length-take, length-drop) (omega arith)

-- ---- the row that is lent for an account's line

module _ (k : ℕ) (few : k ≤ 16) where
  abbrev row : List ℤ
  row = take (k + 6) (replicate 22 (pos 0))

  row_long : length row ≡ k + 6
  row_long = length-take-le (k + 6) (replicate 22 (pos 0)) (omega (arith, length-replicate {A = ℤ}))

  pub row_stresses : length row - 6 ≡ k
  row_stresses = omega (arith, row_long)

  pub row_npvs : (values : List ℤ) → length values ≡ length row → length (npvs_in values) ≡ k + 1
  row_npvs values same = omega (arith, row_long, length-drop 6 values)

-- its base and its stresses, copied one after another
pub npvs_are : (npvs values stresses : List ℤ) (base : ℤ) → 0 < length npvs → base ≡ get_or values 3 (pos 0) → stresses ≡ take (length values - 6) (drop 6 values)
    → put_mid 1 (length (set npvs 0 base) - 1) (set npvs 0 base) stresses ≡ npvs_in values
npvs_are [] values stresses base h e k = absurd (omega arith)
npvs_are (x ∷ npvs) values stresses base h e k =
    let all : length npvs ≤ suc (length npvs) - 1 = omega arith in
    let rest : length (drop 6 values) ≤ length values - 6 = omega (arith, length-drop 6 values) in
    rw (drop_of_length-le npvs all, append-nil stresses, e, k, take_all (length values - 6) (drop 6 values) rest)

-- ---- an account in its place

-- the places with an account in place j
abbrev pub stored : (j k size : ℕ) → AccountLine → Places → Places
stored j k size a places =
    record {
      headings = set places.headings j (record { member = a.member; number = a.number; kind = a.kind });
      npvs = put_mid (j * (k + 1)) size places.npvs a.npvs;
      margins = set places.margins j a.margin;
      extras = set places.extras j a.extra;
    }

-- account j finds room in the places
pub record Room (j k : ℕ) (places : Places) : Type 0 where
  pub heading : j < length places.headings
  pub npvs : j * (k + 1) ≤ length places.npvs
  pub margin : j < length places.margins
  pub extra : j < length places.extras

pub day_more : (terms : DayTerms) (j k size : ℕ) (a : AccountLine) (places : Places) → length a.npvs ≡ k + 1 → Room j k places
    → with_account (day_read terms j k places) a ≡ day_read terms (j + 1) k (stored j k size a places)
unfolding with_account
day_more terms j k size a places long room =
    let all : (j + 1) * (k + 1) ≡ j * (k + 1) + length a.npvs = omega (arith, add-mul j 1 (k + 1), one-mul (k + 1)) in
    rw (
      take_more_set places.headings j (record { member = a.member; number = a.number; kind = a.kind }) room.heading,
      take-put_mid (j * (k + 1)) size places.npvs a.npvs ((j + 1) * (k + 1)) all room.npvs,
      take_more_set places.margins j a.margin room.margin,
      take_more_set places.extras j a.extra room.extra,
    )
