-- What the refusal table leaves of an opening and of a day, in facts instead of tests.
use Rattle.std.specs.Prelude.{Bool, ◌&&◌, List, ◌≡◌, false, ℕ, ◌+◌, ◌*◌, ◌≤◌, ◌<◌, eqb, length, get_or}
use Rattle.std.specs.List.{filter, list_any, position_or_len}
use Rattle.methodology.specs.declared.Opening.{Opening}
use Rattle.methodology.specs.declared.Heading.{Heading}
use Rattle.methodology.specs.Account.{present, DayInput, accounts, nobody, kind_h}
use Rattle.methodology.specs.Refusals.{bad_input, bad_day_number, first_bad_heading, last_missing, bad_amount}
use Rattle.validation.specs.Slices.{Within, Rising}

-- row 1: an opening within its limits, and its lists n long
pub record InLimits (o : Opening) : Type 0 where
  pub members_some : 1 ≤ o.n
  pub members_few : o.n ≤ 32
  pub scenarios_some : 1 ≤ o.k
  pub scenarios_few : o.k ≤ 16
  pub groups_long : length o.groups ≡ o.n
  pub group_few : (i : ℕ) → i < o.n → get_or o.groups i 0 ≤ 32
  pub firsts_long : length o.firsts ≡ o.n
  pub lasts_long : length o.lasts ≡ o.n

-- rows 1 and 10: and its first and last days in order
pub record Opened (o : Opening) : Type 0 where
  pub in_limits : InLimits o
  pub first_some : (i : ℕ) → i < o.n → 1 ≤ get_or o.firsts i 0
  pub in_order : (i : ℕ) → i < o.n → get_or o.firsts i 0 ≤ get_or o.lasts i 0
  pub last_few : (i : ℕ) → i < o.n → get_or o.lasts i 0 ≤ 31

-- a member's account, and its house account, among a day's
abbrev pub has_account : List Heading → (m : ℕ) → Bool
has_account hs m = list_any (λ h. eqb h.member m) hs

abbrev pub has_house : List Heading → (m : ℕ) → Bool
has_house hs m = list_any (λ h. eqb h.member m && eqb h.kind kind_h) hs

-- of those members, who is present on the day with this number
abbrev pub those_present : Opening → (number : ℕ) → List ℕ → List ℕ
those_present o number ms = filter (present o number) ms

-- row 4 of what a day brings: lengths that agree
pub record Sized (o : Opening) (d : DayInput) : Type 0 where
  pub some : 1 ≤ length d.headings
  pub few : length d.headings ≤ 256
  pub npvs_long : length d.npvs ≡ length d.headings * (o.k + 1)
  pub margins_long : length d.margins ≡ length d.headings
  pub extras_long : length d.extras ≡ length d.headings

-- rows 4, 3, 5 and 6 of a day, condition by condition
pub record Passes (o : Opening) (last : ℕ) (d : DayInput) : Type 0 where
  pub input : bad_input o d ≡ false
  pub number : bad_day_number last d.terms.number ≡ false
  pub headings : first_bad_heading o d.terms.number nobody d.headings ≡ length d.headings
  pub complete : last_missing o d.terms.number d.headings ≡ false
  pub amounts : position_or_len bad_amount (accounts o.k d) ≡ length d.headings

-- rows 4 to 6, of its slices
pub record Passed (o : Opening) (d : DayInput) : Type 0 where
  pub within : Within o.k d.headings d.npvs d.margins d.extras
  pub rising : Rising d.headings
  pub most : (i : ℕ) → i < length d.headings → (get_or d.headings i nobody).member ≤ o.n
