-- Cases, laws and theorems; the head of each file lists what it offers.

-- what all laws stand on
pub mod Lists
pub mod Tests
pub mod Outcomes
pub mod Answers
-- the small pieces
pub mod Words
pub mod Bits
pub mod Packing
pub mod Widths
pub mod Gathering
pub mod Stores
pub mod Varints
pub mod VarintLoops
pub mod Folds
pub mod Gcds
pub mod Statistics
pub mod Lines
pub mod Moved
pub mod LineFields
pub mod Heads
-- opening, reading, looking up
pub mod Tables
pub mod Openings
pub mod Laid
pub mod Parts
pub mod Stops
pub mod Elsewhere
pub mod Rows
pub mod Windows
pub mod WindowRuns
pub mod Runs
pub mod Owning
pub mod Lookups
pub mod Sheets
pub mod Replays
-- columns of other kinds
pub mod Mappings
pub mod FloatOrder
pub mod StoredLists
pub mod TypedLookups
-- writing
pub mod RoundTrip
pub mod Savings
pub mod Exponents
pub mod Choosing
pub mod Writes
pub mod Bitpacked
pub mod Linear
pub mod WrittenBlocks
pub mod BlockBytes
pub mod LastBlocks
pub mod SheetParts
pub mod Blockwise
pub mod WrittenBytes
-- the demands, and lengths
pub mod Demand2
pub mod Demand3
pub mod Checks
pub mod Exact
pub mod TypedDemands
pub mod Blame
pub mod Example
pub mod Spellings
pub mod Lengths
pub mod MostBytes
-- cases, computed
pub mod Asking
pub mod RuleCases
pub mod RunCases
pub mod WindowCases
pub mod LongCases
pub mod Cases
pub mod TypedCases
pub mod PartCases
pub mod StopCases
pub mod ViewCases
pub mod ReplayCases
pub mod CheckCases
