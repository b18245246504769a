-- The order of the queues' qTDs, and what is out of each, once a transfer is lent.
use Rattle.std.proofs.Common.{◌≡◌, ◌≢◌, ℕ, zero, suc, ◌+◌, ◌-◌, ◌*◌, ◌<◌, Bool, List, [], ◌∷◌, ◌++◌, length, take, drop, slice_get, Option, Some, None, option_map, if◌then◌else◌, ap, refl, sym, subst, ◌∙◌, arith, false}
use Rattle.std.proofs.lemmas.Bool.{eq-eqb}
use Rattle.std.proofs.lemmas.List.{append-nil, length-take-le}
use Rattle.law_common.proofs.Numbers.{other_number}
use Rattle.law_queues.proofs.Common.{drop_all, not_its_out, piece_more}
use Rattle.word_mem.specs.Memory.{Mem}
use Rattle.mem_runs.specs.Book.{slot_of}
use Rattle.drv_table.specs.declared.content.Endpoint.{Endpoint}
use Rattle.drv_table.specs.declared.content.Transfer.{Transfer}
use Rattle.drv_table.specs.declared.content.Command.{Command}
use Rattle.drv_table.specs.declared.content.Command.TheVariants as unfinished
use Rattle.drv_table.specs.DriverContent.{DriverContent}
use Rattle.claims_driver.specs.Owners.{QueueHead, Element as ElementOwner, ArePieces, runs_of_endpoint, runs_of_transfer, note_in}
use Rattle.law_structures.specs.lent_structures.Structures.{StructureSets}
use Rattle.law_ring.specs.Order.{IsAmong}
use Rattle.law_driver.specs.chained_transfers.Chains.{piece_at}
use Rattle.law_driver.specs.chained_transfers.Turns.{AreInTurn}
use Rattle.law_driver.specs.chained_transfers.Out.{pieces_from, unpublished, out_of, out_now, out_all}
use Rattle.law_queues.specs.fed_lends.Numbers.{at_queue}
use Rattle.law_queues.specs.fed_lends.Streams.{new_out}
use Rattle.law_queues.specs.fed_lends.ToLend.{IsToBeLent, lent_now}
use Rattle.law_queues.proofs.lemmas.fed_lends.Outs.{last_apart, out_apart, its_out, IsOwnedTransfer, out_owner, out_qtd}
use Rattle.law_queues.proofs.lemmas.fed_lends.Reporting.{StandsAt}
use Rattle.law_queues.proofs.lemmas.fed_lends.Names.{older_published}
use Rattle.law_queues.proofs.lemmas.fed_lends.Fed.{y_of, IsLending, bare_is, its_alive}

-- ---- at one queue

pub at_here : {X : Type 0} (f : ℕ → X) (n : ℕ) (y : X) → at_queue f n y n ≡ y
at_here f n y = ap (λ (t : Bool). if t then y else f n) (eq-eqb n n refl)

pub at_else : {X : Type 0} (f : ℕ → X) (n : ℕ) (y : X) (i : ℕ) → i ≢ n → at_queue f n y i ≡ f i
at_else f n y i differs = ap (λ (t : Bool). if t then y else f i) (other_number i n differs)

-- ---- other queues

pub queue_apart : (d : DriverContent) (m : Mem) (b : ℕ) (words : List ℕ) (parts now : StructureSets) (e : ℕ) (x : Endpoint) → (l : IsLending d m b words parts now) → slice_get d.endpoints e ≡ Some x → x.gone ≡ false → e ≢ l.ready.transfer.endpoint → 32 * x.queue ≢ 32 * l.ready.endpoint.queue
queue_apart d m b words parts now e x l here kept differs same =
    let k = l.ready in
    let one = (l.has.owned.each.queue e (runs_of_endpoint x) (ap (option_map runs_of_endpoint) here) (bare_is d e x l.asynchronous here kept)).owned in
    let two = (l.has.owned.each.queue k.transfer.endpoint (runs_of_endpoint k.endpoint) (ap (option_map runs_of_endpoint) k.here) (bare_is d k.transfer.endpoint k.endpoint l.asynchronous k.here (its_alive d m b words l.asynchronous k))).owned in
    differs (one_queue (sym one ∙ ap l.has.owner (let f : x.queue ≡ k.endpoint.queue = omega (arith, same) in f) ∙ two))
  where
    one_queue : {f : ℕ} → QueueHead e ≡ QueueHead f → e ≡ f
    one_queue same = cc

-- ---- what is out

-- of the older transfers
abbrev pub older : DriverContent → ℕ → List Transfer
older d number = take number d.transfers

pub early : DriverContent → ℕ → ℕ → List ℕ
early d number e = out_of (note_in d.notes) e None 0 (older d number)

transfers_are : (d : DriverContent) (m : Mem) (b : ℕ) (words : List ℕ) → (k : IsToBeLent d m b words) → d.transfers ≡ older d k.number ++ k.transfer ∷ []
transfers_are d m b words k = last_apart d.transfers k.number k.transfer k.newest k.there

chain_length : (d : DriverContent) (m : Mem) (b : ℕ) (words : List ℕ) → (k : IsToBeLent d m b words) → pieces_from (note_in d.notes) k.transfer.place k.transfer.left ≡ 32 * k.transfer.first ∷ new_out d (y_of k) k.further
chain_length d m b words k = ap (λ (c : ℕ). pieces_from (note_in d.notes) c k.transfer.left) k.place ∙ ap (pieces_from (note_in d.notes) k.transfer.first) (k.left ∙ k.awaits.qtds)

-- of its endpoint, by how many of its first qTDs aren't published
out_is : (d : DriverContent) (m : Mem) (b : ℕ) (words : List ℕ) (c : Option Command) (made : ℕ) → (k : IsToBeLent d m b words) → out_of (note_in d.notes) k.transfer.endpoint c made d.transfers ≡ early d k.number k.transfer.endpoint ++ drop (unpublished c made k.transfer.qtds) (32 * k.transfer.first ∷ new_out d (y_of k) k.further)
unfolding early
out_is d m b words c made k =
    let note = note_in d.notes in
    let e = k.transfer.endpoint in
    ap (out_of note e c made) (transfers_are d m b words k) ∙ out_apart note e c made (older d k.number) k.transfer
    ∙ ap (λ (es : List ℕ). out_of note e None 0 (older d k.number) ++ es) (its_out note e (unpublished c made k.transfer.qtds) k.transfer refl k.awaits.here.held k.fresh)
    ∙ ap (λ (es : List ℕ). out_of note e None 0 (older d k.number) ++ drop (unpublished c made k.transfer.qtds) es) (chain_length d m b words k)

-- of another endpoint
pub out_other : (d : DriverContent) (m : Mem) (b : ℕ) (words : List ℕ) (c : Option Command) (made e : ℕ) → (k : IsToBeLent d m b words) → e ≢ k.transfer.endpoint → out_of (note_in d.notes) e c made d.transfers ≡ early d k.number e
unfolding early
out_other d m b words c made e k differs =
    let note = note_in d.notes in
    ap (out_of note e c made) (transfers_are d m b words k) ∙ out_apart note e c made (older d k.number) k.transfer
    ∙ ap (λ (es : List ℕ). out_of note e None 0 (older d k.number) ++ es) (not_its_out note e (unpublished c made k.transfer.qtds) k.transfer (λ same. differs (sym same)))
    ∙ append-nil (out_of note e None 0 (older d k.number))

-- before, nothing of it is out
pub out_before : (d : DriverContent) (m : Mem) (b : ℕ) (words : List ℕ) → (k : IsToBeLent d m b words) → out_now d k.transfer.endpoint ≡ early d k.number k.transfer.endpoint
out_before d m b words k =
    let note = note_in d.notes in
    let rest = 32 * k.transfer.first ∷ new_out d (y_of k) k.further in
    let all : unpublished d.command d.made k.transfer.qtds ≡ suc (length k.further) = ap (λ (c : Option Command). unpublished c d.made k.transfer.qtds) k.command ∙ ap (λ (i : ℕ). unpublished (Some (unfinished.Publish b words)) i k.transfer.qtds) k.made ∙ k.awaits.qtds in
    out_is d m b words d.command d.made k
    ∙ ap (λ (i : ℕ). early d k.number k.transfer.endpoint ++ drop i rest) all
    ∙ ap (λ (es : List ℕ). early d k.number k.transfer.endpoint ++ es) (drop_all note k.transfer.first (suc (length k.further)))
    ∙ append-nil (early d k.number k.transfer.endpoint)

pub out_after : (d : DriverContent) (m : Mem) (b : ℕ) (words : List ℕ) → (k : IsToBeLent d m b words) → out_now (lent_now d m) k.transfer.endpoint ≡ early d k.number k.transfer.endpoint ++ new_out d (y_of k) k.further
out_after d m b words k =
    out_is d m b words d.command 1 k
    ∙ ap (λ (c : Option Command). early d k.number k.transfer.endpoint ++ drop (unpublished c 1 k.transfer.qtds) (32 * k.transfer.first ∷ new_out d (y_of k) k.further)) k.command

pub out_then : (d : DriverContent) (m : Mem) (b : ℕ) (words : List ℕ) → (k : IsToBeLent d m b words) → out_all (lent_now d m) k.transfer.endpoint ≡ early d k.number k.transfer.endpoint ++ (32 * k.transfer.first ∷ new_out d (y_of k) k.further)
out_then d m b words k = out_is d m b words None 0 k

-- ---- whose it is

taken_older : (ts : List Transfer) (n i : ℕ) (y : Transfer) → slice_get (take n ts) i ≡ Some y → (i < n) × (slice_get ts i ≡ Some y)
taken_older [] zero i y there = absurd (cc)
taken_older [] (suc n) i y there = absurd (cc)
taken_older (z ∷ ts) zero i y there = absurd (cc)
taken_older (z ∷ ts) (suc n) zero y there = (omega arith, there)
taken_older (z ∷ ts) (suc n) (suc i) y there = let r = taken_older ts n i y there in let l = r.0 in (omega (arith, l), r.1)

-- each qTD that is out of the older transfers stands
pub early_stands : (d : DriverContent) (m : Mem) (b : ℕ) (words : List ℕ) (parts now : StructureSets) → (l : IsLending d m b words parts now) → AreInTurn d → (a : ℕ)
    → IsAmong a (early d l.ready.number l.ready.transfer.endpoint) → StandsAt (parts (32 * l.ready.endpoint.queue)) a
unfolding early
early_stands d m b words parts now l turns a among =
    let k = l.ready in
    let n = 32 * k.endpoint.queue in
    let note = note_in d.notes in
    let o = out_qtd note k.transfer.endpoint (older d k.number) a among in
    let y = o.transfer in
    let was = taken_older d.transfers k.number o.number y o.there in
    let at = turns.places o.number y was.1 o.held in
    let i = y.qtds - y.left + o.piece.number in
    let below = o.piece.below in
    let most = at.most in
    let low = was.0 in
    let none = older_published d m b o.number words y k (λ same. omega (arith, low, same)) in
    let fed = l.fed.pieces o.number i y k.endpoint was.1 o.held (ap (slice_get d.endpoints) o.owner ∙ k.here) (omega (arith, none)) (omega (arith, below, most)) in
    let is : a ≡ 32 * piece_at note y.first i =
    o.piece.at ∙ ap (λ (c : ℕ). 32 * piece_at note c o.piece.number) at.place ∙ ap (λ (c : ℕ). 32 * c) (piece_more note y.first (y.qtds - y.left) o.piece.number) in
    record { qtd = fed.qtd; here = ap (parts n) is ∙ fed.here }

pub early_owner : (d : DriverContent) (m : Mem) (b : ℕ) (words : List ℕ) (parts now : StructureSets) → (l : IsLending d m b words parts now) → AreInTurn d → IsAmong (32 * l.ready.transfer.first) (early d l.ready.number l.ready.transfer.endpoint) → ⊥
unfolding early
early_owner d m b words parts now l turns among =
    let k = l.ready in
    let slot = slot_of d.book.slots in
    let note = note_in d.notes in
    let o = out_owner slot l.has.owner note k.transfer.endpoint (older d k.number) 0 (32 * k.transfer.first)
    (λ i y there held.
    let was = taken_older d.transfers k.number i y there in
    let at = turns.places i y was.1 held in
    subst (λ (j : ℕ). IsOwnedTransfer slot l.has.owner note j y) (let e : i ≡ 0 + i = omega arith in e)
    (record { pieces = l.has.owned.each.pieces i (runs_of_transfer y) (ap (option_map runs_of_transfer) was.1) held; most = at.most; place = at.place })) among in
    let r = k.awaits in
    let mine = (subst (λ (n : ℕ). ArePieces slot l.has.owner note k.number k.transfer.first n) r.qtds (l.has.owned.each.pieces k.number (runs_of_transfer k.transfer) r.here.here r.here.held)).0.element.owned in
    let few : length (older d k.number) ≡ k.number = length-take-le k.number d.transfers (let e = k.newest in omega (arith, e)) in
    let block : o.block ≡ k.transfer.first = let e = o.at in omega (arith, e) in
    let same : o.transfer ≡ k.number = one_element (sym o.owned ∙ ap l.has.owner block ∙ mine) in
    let below = o.below in
    omega (arith, below, few, same)
  where
    one_element : {t u : ℕ} → ElementOwner t ≡ ElementOwner u → t ≡ u
    one_element same = cc
