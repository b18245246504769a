-- In which ways an event of the driver changes an element of the lists of endpoints and transfers (EHCI 1.0, 4.6 to 4.10). Neither list
-- gets longer or shorter by an event.
--     EndpointChange x y       the endpoint x becomes y
--     EndpointsStep old new    no endpoint changes, or one, in one of these ways
--     TransferChange x y       the transfer x becomes y, or stays
--     TransfersStep old new    each transfer changes in one of these ways
use Rattle.std.specs.Prelude.{◌≡◌, ℕ, true, false, ◌||◌, Bool, List, [], ◌∷◌, Option, Some, slice_get, slice_set}
use Rattle.usb_base.specs.declared.endpoints.EndCause.{EndCause}
use Rattle.drv_table.specs.declared.content.Endpoint.{Endpoint}
use Rattle.drv_table.specs.declared.content.Transfer.{Transfer}

pub data EndpointChange (x : Endpoint) : Endpoint → Type 0 where
  off_ring : EndpointChange x (record x { linked = false })
  off_frames : EndpointChange x (record x { chained = false })
  let_go : EndpointChange x (record x { gone = true })
  over : (cause : EndCause) → EndpointChange x (record x { ended = Some cause })
  onward : (t : Option ℕ) → EndpointChange x (record x { next = t })

pub data EndpointsStep (old : List Endpoint) : List Endpoint → Type 0 where
  same : EndpointsStep old old
  one : (e : ℕ) (x y : Endpoint) → slice_get old e ≡ Some x → EndpointChange x y → EndpointsStep old (slice_set old e y)

-- A qTD of it is done, its line of the report is made, its blocks are given back; `with_endpoint` does the last two as its endpoint goes.
pub data TransferChange (x : Transfer) : Transfer → Type 0 where
  stays : TransferChange x x
  moved : (place left : ℕ) → TransferChange x (record x { place = place; left = left })
  told : TransferChange x (record x { reported = true })
  given_back : TransferChange x (record x { released = true })
  with_endpoint : (line : Bool) → TransferChange x (record x { reported = x.reported || line; released = true })

-- the lists are equally long, and R holds of the elements of each number
abbrev pub EachPair : (Transfer → Transfer → Type 0) → List Transfer → List Transfer → Type 0
EachPair R [] [] = Unit {0}
EachPair R (x ∷ xs) (y ∷ ys) = R x y × EachPair R xs ys
EachPair R _ _ = ⊥

abbrev pub TransfersStep : List Transfer → List Transfer → Type 0
TransfersStep old new = EachPair (λ (x y : Transfer). TransferChange x y) old new
