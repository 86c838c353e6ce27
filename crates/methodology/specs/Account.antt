-- Document 01, "From an account to a member", first half: a period's members and scenarios, a day's accounts, and an account's EUL;
-- 001, 6.1.1(2) to (4). By document 02's Change 7 a member is present from its first day to its last.
use Rattle.std.specs.Prelude.{Bool, ◌&&◌, List, [], map, ℕ, ◌+◌, ◌-◌, ◌*◌, leb, ℤ, pos, ◌+ℤ◌, ◌-ℤ◌, length, get_or, take, drop}
use Rattle.std.specs.List.{range_with_len}
use Rattle.numbers.specs.Signed.{◌⁺}
use Rattle.numbers.specs.Sums.{greatest}
use Rattle.methodology.specs.declared.Opening.{Opening}
use Rattle.methodology.specs.declared.DayTerms.{DayTerms}
use Rattle.methodology.specs.declared.Heading.{Heading}

-- What an opening brings is `Opening`, declared in src/lib.rt: "A period has n members, numbered 1 to n (1 to 32), and k stress scenarios (1
-- to 16). Each member has a group number, 0 to 32." By Change 7 it "now takes a first and a last day for each member". In a definition its
-- groups, first days and last days are lists of any length, as a call brings them.

-- none: what is held before the first
abbrev pub no_opening : Opening
no_opening = record { n = 0; k = 0; groups = []; firsts = []; lasts = [] }

-- the members, 1 to n
abbrev pub members : (n : ℕ) → List ℕ
members n = range_with_len 1 n

-- the first and the last day of member m; member 1's are the first of their lists
abbrev pub first_day : Opening → (m : ℕ) → ℕ
first_day o m = get_or o.firsts (m - 1) 0

abbrev pub last_day : Opening → (m : ℕ) → ℕ
last_day o m = get_or o.lasts (m - 1) 0

-- Whether member m is present on the day with this number: from its first day to its last, both among them. "On other days it has no
-- accounts, losses or shares" (Change 7): row 5 of the refusal table leaves it no account, and without accounts its loss and its share are 0.
unfoldable pub present : Opening → (number m : ℕ) → Bool
present o number m = leb (first_day o m) number && leb number (last_day o m)

-- the stress scenarios, 1 to k
abbrev pub scenarios : (k : ℕ) → List ℕ
scenarios k = range_with_len 1 k

-- What a day brings: its terms (`DayTerms`, declared in src/lib.rt), which are its number, and in four lent slices its accounts. "No field
-- may be missing." "The headings of a day's accounts (member, account number, kind) come as a lent slice of records [..]; the NPVs come as
-- one lent slice of signed 64-bit numbers [..]; margins and extras come in two further slices, one number an account."
pub record DayInput : Type 0 where
  pub terms : DayTerms
  pub headings : List Heading
  pub npvs : List ℤ
  pub margins : List ℕ
  pub extras : List ℕ

-- a day before its first account
abbrev pub no_accounts : DayTerms → DayInput
no_accounts terms = record { terms = terms; headings = []; npvs = []; margins = []; extras = [] }

-- An account. "A day's account has a member, an account number, a kind, a base NPV, k stress NPVs, a margin and an extra."
pub record Account : Type 0 where
  pub heading : Heading
  pub npvs : List ℤ
  pub margin : ℕ
  pub extra : ℕ

-- A heading of nobody: no member has the number 0. It stands before the first heading of a day, and for one past the last.
abbrev pub nobody : Heading
nobody = record { member = 0; number = 0; kind = 0 }

-- The account at index i of a day. It has k + 1 NPVs: "each account's stress row is handed on as a part of" the one slice. Row 4 of the
-- refusal table leaves no number of it missing.
unfoldable pub account_at : (k : ℕ) → DayInput → ℕ → Account
account_at k d i =
    record {
      heading = get_or d.headings i nobody;
      npvs = take (k + 1) (drop (i * (k + 1)) d.npvs);
      margin = get_or d.margins i 0;
      extra = get_or d.extras i 0;
    }

-- A day's accounts, in the order of their headings.
unfoldable pub accounts : (k : ℕ) → DayInput → List Account
accounts k d = map (account_at k d) (range_with_len 0 (length d.headings))

-- "Kinds: H (0) house; R (1) client, no Affiliate, replacement member appointed [..]; A (2) client that is an Affiliate of the member;
-- U (3) client with no such appointment."
abbrev pub kind_h : ℕ
kind_h = 0

abbrev pub kind_r : ℕ
kind_r = 1

abbrev pub kind_a : ℕ
kind_a = 2

abbrev pub kind_u : ℕ
kind_u = 3

-- An account's row of NPVs. "For each account the NPVs are its base, then stress 1 to k": the base is at index 0 and stress j at index j.
abbrev pub base : (row : List ℤ) → ℤ
base row = get_or row 0 (pos 0)

abbrev pub stress : (row : List ℤ) → (j : ℕ) → ℤ
stress row j = get_or row j (pos 0)

-- "The decrease under scenario j is base minus stress j, or 0 where that is negative."
unfoldable pub decrease : (row : List ℤ) → (j : ℕ) → ℕ
decrease row j = (base row -ℤ stress row j) ⁺

-- The EUL (expected uncollateralized loss) of an account "is that decrease, less margin, plus extra. It may be negative." The extra, a
-- part of the margin, "is not counted".
unfoldable pub eul_of : (decrease margin extra : ℕ) → ℤ
eul_of fall margin extra = pos fall -ℤ pos margin +ℤ pos extra

-- "The account's EUL [..] under j"
unfoldable pub eul_under : (j : ℕ) → Account → ℤ
eul_under j a = eul_of (decrease a.npvs j) a.margin a.extra

-- "its largest decrease (its Position Account STV)"
unfoldable pub largest_decrease : (k : ℕ) → (row : List ℤ) → ℕ
largest_decrease k row = greatest (scenarios k) (decrease row)

-- "The account's own EUL uses its largest decrease [..] instead."
unfoldable pub own_eul : (k : ℕ) → Account → ℤ
own_eul k a = eul_of (largest_decrease k a.npvs) a.margin a.extra
