-- How a day as the program has it (`Day`, declared in src/lib.rt) is read as the definitions' `DayInput`. Nothing proves a reading: compare
-- these lines with document 01.
use Rattle.methodology.specs.declared.Day.{Day}
use Rattle.methodology.specs.Account.{DayInput}

abbrev pub day_brought : Day → DayInput
day_brought d = record { terms = d.terms; headings = d.headings.now; npvs = d.npvs.now; margins = d.margins.now; extras = d.extras.now }
