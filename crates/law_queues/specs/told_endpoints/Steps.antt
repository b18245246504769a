-- What changes what the lines of a report tell of each endpoint (EHCI 1.0, 4.10).
--     Grows e more told now     of the endpoint of number e these bytes more, of the others the same
--     Clears e held later       of the endpoint of number e none any more, of the others the same
--     NamesAt e y named now     the endpoint of number e is named so now, the others as before
--     AddsLine ..               a line of the endpoint of number e tells what was held back of it, and then more bytes
--     AddsOtherLine ..          a line of an endpoint that has no stream (a control endpoint, whose requests are told one by one)
--     KeepsNames .. RequestsAddNoStream ..  laws
use Rattle.std.specs.Prelude.{◌≡◌, ◌≢◌, ℕ, true, false, List, [], ◌∷◌, ◌++◌, length, Option, Some, None}
use Rattle.usb_base.specs.declared.reports.Report.{Report}
use Rattle.bus_wire.specs.Fates.{is_same_name}
use Rattle.claims_report.specs.Reports.{is_refusal, is_end}
use Rattle.law_queues.specs.told_endpoints.Telling.{Named, SameNames, TellsEach}

pub record Grows (e : ℕ) (more : List ℕ) (told now : ℕ → List ℕ) : Type 0 where
  pub here : now e ≡ told e ++ more
  pub beside : (k : ℕ) → k ≢ e → now k ≡ told k

pub record Clears (e : ℕ) (held later : ℕ → List ℕ) : Type 0 where
  pub here : later e ≡ []
  pub beside : (k : ℕ) → k ≢ e → later k ≡ held k

pub record NamesAt (e : ℕ) (y : Named) (named now : ℕ → Option Named) : Type 0 where
  pub here : now e ≡ Some y
  pub beside : (k : ℕ) → k ≢ e → now k ≡ named k

-- where the endpoint goes on, the line doesn't end it
pub record AddsLine (e : ℕ) (x y : Named) (line : Report) (store bytes held more : List ℕ) : Type 0 where
  pub going : x.ended ≡ None
  pub named : y.name ≡ x.name
  pub alike : y.stream ≡ x.stream
  pub line_named : line.name ≡ x.name
  pub tells : is_refusal line.what ≡ false
  pub goes_on : y.ended ≡ None → is_end line.what ≡ false
  pub from : line.from ≡ length store
  pub long : line.len ≡ length bytes
  pub bytes_are : bytes ≡ held ++ more

pub record AddsOtherLine (x y : Named) (line : Report) (store bytes : List ℕ) : Type 0 where
  pub named : y.name ≡ x.name
  pub none : y.stream ≡ false
  pub line_named : line.name ≡ x.name
  pub tells : is_refusal line.what ≡ false
  pub from : line.from ≡ length store
  pub long : line.len ≡ length bytes

abbrev pub KeepsNames : Type 0
KeepsNames = (reports : List Report) (store : List ℕ) (named now : ℕ → Option Named) (held told : ℕ → List ℕ) → SameNames named now → TellsEach reports store named held told
    → TellsEach reports store now held told

-- a command that is refused has a line without bytes
abbrev pub AddsRefusal : Type 0
AddsRefusal = (reports : List Report) (store : List ℕ) (named : ℕ → Option Named) (held told : ℕ → List ℕ) (line : Report) → is_refusal line.what ≡ true → line.from ≡ length store → line.len ≡ 0
    → TellsEach reports store named held told → TellsEach (reports ++ line ∷ []) store named held told

-- an endpoint of another name is opened
abbrev pub OpenAddsEndpoint : Type 0
OpenAddsEndpoint = (reports : List Report) (store : List ℕ) (named now : ℕ → Option Named) (held told : ℕ → List ℕ) (e : ℕ) (x : Named) → named e ≡ None → NamesAt e x named now → x.ended ≡ None
    → ((k : ℕ) (y : Named) → named k ≡ Some y → is_same_name y.name x.name ≡ false) → held e ≡ [] → told e ≡ [] → TellsEach reports store named held told → TellsEach reports store now held told

-- a qTD is harvested that doesn't end its transfer
abbrev pub AddsHeld : Type 0
AddsHeld = (reports : List Report) (store : List ℕ) (named : ℕ → Option Named) (held later told now : ℕ → List ℕ) (e : ℕ) (x : Named) (more : List ℕ) → named e ≡ Some x → x.ended ≡ None
    → Grows e more held later → Grows e more told now → TellsEach reports store named held told → TellsEach reports store named later now

-- a qTD is harvested that ends its transfer, and maybe the endpoint
abbrev pub AddsBytes : Type 0
AddsBytes = (reports : List Report) (store bytes more : List ℕ) (named after : ℕ → Option Named) (held later told now : ℕ → List ℕ) (e : ℕ) (x y : Named) (line : Report) → named e ≡ Some x
    → NamesAt e y named after
    → AddsLine e x y line store bytes (held e) more → Clears e held later → Grows e more told now → TellsEach reports store named held told
    → TellsEach (reports ++ line ∷ []) (store ++ bytes) after later now

-- a qTD of an endpoint without a stream is harvested
abbrev pub RequestsAddNoStream : Type 0
RequestsAddNoStream = (reports : List Report) (store bytes : List ℕ) (named after : ℕ → Option Named) (held told : ℕ → List ℕ) (e : ℕ) (x y : Named) (line : Report) → named e ≡ Some x → NamesAt e y named after
    → AddsOtherLine x y line store bytes → TellsEach reports store named held told → TellsEach (reports ++ line ∷ []) (store ++ bytes) after held told
