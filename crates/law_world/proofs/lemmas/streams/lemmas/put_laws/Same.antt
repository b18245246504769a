-- What is owed where no endpoint, transfer or note changes.
use Rattle.std.proofs.Common.{◌≡◌, ◌≢◌, ℕ, ◌-◌, ◌*◌, Bool, true, false, List, [], ◌++◌, set, slice_get, Option, Some, None, option_map, ap, refl, sym, subst, ◌∙◌, ⊎_elim, inl, inr, arith}
use Rattle.std.specs.Prelude.{◌⊎◌}
use Rattle.std.specs.List.{concat}
use Rattle.std.proofs.lemmas.Bool.{false≢true, true≢false}
use Rattle.std.proofs.lemmas.Option.{same_Some, slice_get_within}
use Rattle.law_driver.proofs.Common.{others_wait}
use Rattle.law_queues.proofs.Common.{none_open}
use Rattle.law_common.proofs.Lists.{nothing_at, set_there}
use Rattle.law_world.proofs.Common.{same_queue, met_or_not}
use Rattle.law_driver.proofs.Common.{waits_is}
use Rattle.claims_base.specs.Prefix.{IsPrefix}
use Rattle.word_mem.specs.Memory.{Mem}
use Rattle.usb_base.specs.declared.endpoints.EpDesc.{EpDesc}
use Rattle.drv_table.specs.declared.content.Command.{Command}
use Rattle.drv_table.specs.declared.content.Command.TheVariants as unfinished
use Rattle.drv_table.specs.declared.content.Endpoint.{Endpoint}
use Rattle.drv_table.specs.declared.content.QtdNote.{QtdNote}
use Rattle.drv_table.specs.declared.content.Sort.TheVariants as sorts
use Rattle.drv_table.specs.declared.content.Transfer.{Transfer}
use Rattle.drv_table.specs.DriverContent.{DriverContent, waits_for}
use Rattle.law_driver.specs.endpoint_lives.Lives.{told_end}
use Rattle.claims_driver.specs.Scripts.{receives}
use Rattle.law_driver.specs.chained_transfers.Bulk.{sort_by, MovesAs}
use Rattle.law_driver.specs.chained_transfers.AsynchronousTurns.{AsynchronousTakesTurns}
use Rattle.law_driver.specs.chained_transfers.Turns.{turn_of, IsNotGone}
use Rattle.law_driver.proofs.lemmas.chained_transfers.Rows.{set_which}
use Rattle.law_driver.proofs.lemmas.chained_transfers.Ways.{sends_sort}
use Rattle.law_driver_ring.specs.fed_queues.Places.{IsThere}
use Rattle.law_world.specs.streams.put_laws.Held.{held_bytes}
use Rattle.law_world.specs.streams.put_laws.HeldPuts.{HoldsPuts, piece_of}
use Rattle.law_world.specs.streams.put_laws.TakenPuts.{puts_from, puts_of}
use Rattle.law_world.specs.streams.put_laws.Owed.{rest_from, rest_of, Owes}
use Rattle.law_world.specs.streams.put_laws.OwedLaws.{TellsAlike, KeepsPuts, NewDriverOwes, AlikeOwes, MetOwes, ReturnedOwes}
use Rattle.law_world.proofs.lemmas.streams.lemmas.put_laws.Bytes.{held_left}
use Rattle.law_world.proofs.lemmas.streams.lemmas.put_laws.Rests.{prefix_to, reported_not, one_none, rest_alike, rest_none, rest_set, puts_kept, puts_set, puts_no}

-- ---- one put that waits

-- the endpoint of the transfer wasn't given back
pub not_gone : (d : DriverContent) (e : ℕ) (x : Endpoint) (y : Transfer) → slice_get d.endpoints e ≡ Some x → x.gone ≡ false → y.endpoint ≡ e → IsNotGone (slice_get d.endpoints) y.endpoint
not_gone d e x y here alive own = record { endpoint = x; here = ap (slice_get d.endpoints) own ∙ here; gone = alive }

-- what isn't reported of such an endpoint isn't given back
pub kept : (d : DriverContent) (t : ℕ) (y : Transfer) → AsynchronousTakesTurns d → slice_get d.transfers t ≡ Some y → IsNotGone (slice_get d.endpoints) y.endpoint → y.reported ≡ false → y.released ≡ false
kept d t y turns there alive waits = by y.released refl
  where
    by : (b : Bool) → y.released ≡ b → b ≡ false
    by false is = refl
    by true is = absurd (false≢true (sym waits ∙ turns.turns.turns.told t (turn_of y) (ap (option_map turn_of) there) alive is))

pub its_sort : (d : DriverContent) (e t : ℕ) (x : Endpoint) (y : Transfer) → AsynchronousTakesTurns d → slice_get d.endpoints e ≡ Some x → receives x.desc.name.way ≡ false → slice_get d.transfers t ≡ Some y → y.endpoint ≡ e → y.sort ≡ sorts.Put
its_sort d e t x y turns here sends there own =
    let moves : MovesAs d y = turns.asynchronous.moves t y there in
    let is : moves.endpoint ≡ x = same_Some moves.endpoint x (sym moves.here ∙ ap (slice_get d.endpoints) own ∙ here) in
    moves.sort ∙ ap (λ (z : Endpoint). sort_by z.desc.name.way) is ∙ sends_sort x.desc.name.way sends

-- of a content with the same places
pub its_bytes : (d : DriverContent) (m : Mem) (puts : ℕ → List ℕ) (e t : ℕ) (x : Endpoint) (y : Transfer) → AsynchronousTakesTurns d → HoldsPuts d m puts → slice_get d.endpoints e ≡ Some x → x.gone ≡ false → receives x.desc.name.way ≡ false
    → slice_get d.transfers t ≡ Some y → waits_for e y ≡ true → held_bytes m d.notes y.place y.left ≡ piece_of d.notes y.first (y.qtds - y.left) (puts t)
its_bytes d m puts e t x y turns held here alive sends there waits =
    let own = waits_is e y waits in
    let still = kept d t y turns there (not_gone d e x y here alive own.0) own.1 in
    held_left m d.notes y (puts t) (turns.turns.places t y there still) (held.each t y there (its_sort d e t x y turns here sends there own.0) still)

-- ---- there, being opened, or given back

queue_in : Option Command → ℕ
queue_in (Some (unfinished.Open c)) = c
queue_in _ = 0

pub there_or : (d : DriverContent) (x : Endpoint) → x.gone ≡ false → (d.command ≡ Some (unfinished.Open x.queue)) ⊎ IsThere d x
there_or d x alive =
    ⊎_elim (λ (opens : d.command ≡ Some (unfinished.Open x.queue)). inl opens)
    (λ (linked : d.command ≢ Some (unfinished.Open x.queue)). inr (record { linked = linked; kept = alive })) (met_or_not d.command x.queue)

pub life_or : (d : DriverContent) (x : Endpoint) → ((d.command ≡ Some (unfinished.Open x.queue)) × (x.gone ≡ false)) ⊎ ((x.gone ≡ true) ⊎ IsThere d x)
life_or d x = by x.gone refl
  where
    by : (b : Bool) → x.gone ≡ b → ((d.command ≡ Some (unfinished.Open x.queue)) × (x.gone ≡ false)) ⊎ ((x.gone ≡ true) ⊎ IsThere d x)
    by true gone = inr (inl gone)
    by false alive = ⊎_elim (λ (opens : d.command ≡ Some (unfinished.Open x.queue)). inl (opens, alive)) (λ (there : IsThere d x). inr (inr there)) (there_or d x alive)

-- where no command is unfinished
pub idle_there : (d : DriverContent) → d.command ≡ None → (x : Endpoint) → x.gone ≡ false → IsThere d x
idle_there d idle x alive = record { linked = λ is. none_open x.queue (sym idle ∙ is); kept = alive }

pub idle_life : (d : DriverContent) → d.command ≡ None → (x : Endpoint) → (x.gone ≡ true) ⊎ IsThere d x
idle_life d idle x = by x.gone refl
  where
    by : (b : Bool) → x.gone ≡ b → (x.gone ≡ true) ⊎ IsThere d x
    by true gone = inl gone
    by false alive = inr (idle_there d idle x alive)

-- ---- contents that tell the same

-- the endpoint was one like it, as far as its report has it
pub record WasEnd (d : DriverContent) (e : ℕ) (z : Endpoint) : Type 0 where
  pub endpoint : Endpoint
  pub here : slice_get d.endpoints e ≡ Some endpoint
  pub queue : z.queue ≡ endpoint.queue
  pub desc : z.desc ≡ endpoint.desc
  pub gone : z.gone ≡ endpoint.gone
  pub ends : told_end z ≡ told_end endpoint

abbrev pub WereEnds : DriverContent → DriverContent → Type 0
WereEnds d f = (e : ℕ) (z : Endpoint) → slice_get f.endpoints e ≡ Some z → WasEnd d e z

pub ends_same : (d f : DriverContent) → f.endpoints ≡ d.endpoints → WereEnds d f
ends_same d f same e z here = record {
  endpoint = z;
  here = ap (λ (xs : List Endpoint). slice_get xs e) (sym same) ∙ here;
  queue = refl;
  desc = refl;
  gone = refl;
  ends = refl;
}

pub record TellsLike (d f : DriverContent) : Type 0 where
  pub ends : WereEnds d f
  pub transfers : f.transfers ≡ d.transfers
  pub notes : f.notes ≡ d.notes

alike_like : (d f : DriverContent) → TellsAlike d f → TellsLike d f
alike_like d f k = record { ends = ends_same d f k.endpoints; transfers = k.transfers; notes = k.notes }

-- ---- the same content

module _ (d new : DriverContent) (m later : Mem) (puts now reported told : ℕ → List ℕ) (turns : AsynchronousTakesTurns d) (alike : TellsLike d new) (keeps : KeepsPuts d puts now) (held : HoldsPuts d m puts) (still : HoldsPuts new later now) (met : (e : ℕ) (x : Endpoint) → slice_get d.endpoints e ≡ Some x → IsThere new x → IsThere d x → told (32 * x.queue) ≡ reported (32 * x.queue)) (opened : (e : ℕ) (x : Endpoint) → slice_get d.endpoints e ≡ Some x → IsThere new x → d.command ≡ Some (unfinished.Open x.queue) → told (32 * x.queue) ≡ []) (opens : (x : Endpoint) → new.command ≡ Some (unfinished.Open x.queue) → d.command ≡ Some (unfinished.Open x.queue)) (owes : Owes d m puts reported) where
  there_still : (e : ℕ) (z : Endpoint) (w : WasEnd d e z) → IsThere new z → IsThere new w.endpoint
  there_still e z w t = record { linked = λ is. t.linked (is ∙ ap (λ (q : ℕ). Some (unfinished.Open q)) (sym w.queue)); kept = sym w.gone ∙ t.kept }

  sent_still : (e : ℕ) (z : Endpoint) (w : WasEnd d e z) → receives z.desc.name.way ≡ false → receives w.endpoint.desc.name.way ≡ false
  sent_still e z w sends = ap (λ (r : EpDesc). receives r.name.way) (sym w.desc) ∙ sends

  had : (t : ℕ) (y : Transfer) → slice_get new.transfers t ≡ Some y → slice_get d.transfers t ≡ Some y
  had t y there = ap (λ (ts : List Transfer). slice_get ts t) (sym alike.transfers) ∙ there

  has : (t : ℕ) (y : Transfer) → slice_get d.transfers t ≡ Some y → slice_get new.transfers t ≡ Some y
  has t y there = ap (λ (ts : List Transfer). slice_get ts t) alike.transfers ∙ there

  rest_same : (e : ℕ) (x : Endpoint) → slice_get d.endpoints e ≡ Some x → x.gone ≡ false → receives x.desc.name.way ≡ false → rest_of new later e ≡ rest_of d m e
  rest_same e x here alive sends =
      ap (λ (ts : List Transfer). rest_from later new.notes e ts) alike.transfers ∙ ap (λ (ns : List QtdNote). rest_from later ns e d.transfers) alike.notes
      ∙ rest_alike m later d.notes d.notes e d.transfers
      (λ t y there waits.
      let own = waits_is e y waits in
      let released = kept d t y turns there (not_gone d e x y here alive own.0) own.1 in
      held_left later d.notes y (now t) (turns.turns.places t y there released)
      (ap (λ (ns : List QtdNote). held_bytes later ns y.first y.qtds) (sym alike.notes) ∙ still.each t y (has t y there) (its_sort d e t x y turns here sends there own.0) released)
      ∙ ap (piece_of d.notes y.first (y.qtds - y.left)) (keeps t (slice_get_within d.transfers t y there))
      ∙ sym (its_bytes d m puts e t x y turns held here alive sends there waits))

  puts_same : (e : ℕ) → concat (puts_of new now e) ≡ concat (puts_of d puts e)
  puts_same e = ap (λ (ts : List Transfer). concat (puts_from now e 0 ts)) alike.transfers ∙ ap concat (puts_kept puts now e d.transfers keeps)

  -- one that was being opened
  none_put : (e : ℕ) (x : Endpoint) → slice_get d.endpoints e ≡ Some x → x.gone ≡ false → d.command ≡ Some (unfinished.Open x.queue) → (rest_of new later e ≡ []) × (concat (puts_of new now e) ≡ [])
  none_put e x here alive is =
      let none = λ (t : ℕ) (y : Transfer) (there : slice_get new.transfers t ≡ Some y). owes.opening e t x y here alive is (had t y there) in
      (rest_none later new.notes e new.transfers (λ t y there. others_wait e y (none t y there)), ap concat (puts_no now e new.transfers none))

  pub same_owes : Owes new later now told
  same_owes = record {
    going = λ e z here meets sends goes.
        let w = alike.ends e z here in
        let x = w.endpoint in
        let now_there = there_still e z w meets in
        ap (λ (q : ℕ). told (32 * q) ++ rest_of new later e) w.queue
        ∙ ⊎_elim
        (λ (at_open : d.command ≡ Some (unfinished.Open x.queue)).
        let none = none_put e x w.here now_there.kept at_open in
        ap (λ (bs : List ℕ). bs ++ rest_of new later e) (opened e x w.here now_there at_open) ∙ none.0 ∙ sym none.1)
        (λ (before : IsThere d x).
        ap (λ (bs : List ℕ). bs ++ rest_of new later e) (met e x w.here now_there before)
        ∙ ap (λ (bs : List ℕ). reported (32 * x.queue) ++ bs) (rest_same e x w.here now_there.kept (sent_still e z w sends))
        ∙ owes.going e x w.here before (sent_still e z w sends) (sym w.ends ∙ goes) ∙ sym (puts_same e)) (there_or d x now_there.kept);
    over = λ e z cause here meets sends ends.
        let w = alike.ends e z here in
        let x = w.endpoint in
        let now_there = there_still e z w meets in
        subst (λ (q : ℕ). IsPrefix (told (32 * q)) (concat (puts_of new now e))) (sym w.queue)
        (⊎_elim
        (λ (at_open : d.command ≡ Some (unfinished.Open x.queue)).
        subst (λ (bs : List ℕ). IsPrefix bs (concat (puts_of new now e))) (sym (opened e x w.here now_there at_open)) (concat (puts_of new now e), refl))
        (λ (before : IsThere d x).
        subst (λ (bs : List ℕ). IsPrefix bs (concat (puts_of new now e))) (sym (met e x w.here now_there before))
        (prefix_to (reported (32 * x.queue)) (concat (puts_of d puts e)) (concat (puts_of new now e)) (sym (puts_same e))
        (owes.over e x cause w.here before (sent_still e z w sends) (sym w.ends ∙ ends)))) (there_or d x now_there.kept));
    opening = λ e t z y here alive is there.
        let w = alike.ends e z here in
        owes.opening e t w.endpoint y w.here (sym w.gone ∙ alive) (opens w.endpoint (is ∙ ap (λ (q : ℕ). Some (unfinished.Open q)) w.queue)) (had t y there);
    last = λ t y z there here sends goes is held.
        let w = alike.ends y.endpoint z here in
        owes.last t y w.endpoint (had t y there) w.here (sent_still y.endpoint z w sends) (sym w.ends ∙ goes) is held;
  }

-- ---- the laws

pub alike_owes : AlikeOwes
alike_owes d new m later puts now reported turns alike met opens keeps held still owes =
    same_owes d new m later puts now reported reported turns (alike_like d new alike) keeps held still (λ e x here meets before. refl) (λ e x here meets at_open. absurd ((met x meets).linked at_open)) opens owes

pub met_owes : MetOwes
met_owes d new m later puts reported told b turns alike opens done here beside held still owes =
    same_owes d new m later puts puts reported told turns (alike_like d new alike) (λ t low. refl) held still
    (λ e x at meets before. beside (32 * x.queue) (λ same. before.linked (opens ∙ ap (λ (c : ℕ). Some (unfinished.Open c)) (let q : b ≡ x.queue = omega (arith, same) in q))))
    (λ e x at meets at_open. ap (λ (c : ℕ). told (32 * c)) (sym (same_queue b x.queue (sym opens ∙ at_open))) ∙ here) (λ x is. absurd (none_open x.queue (sym done ∙ is))) owes

pub new_owes : NewDriverOwes
new_owes n room m puts reported = record {
  going = λ e x here meets sends goes. absurd (nothing_at e x here);
  over = λ e x cause here meets sends ends. absurd (nothing_at e x here);
  opening = λ e t x y here alive is there. absurd (nothing_at e x here);
  last = λ t y x there here sends goes is held. absurd (nothing_at t y there);
}

-- ---- a reported transfer is given back

module _ (d new : DriverContent) (m later : Mem) (t : ℕ) (y : Transfer) (puts reported : ℕ → List ℕ) (turns : AsynchronousTakesTurns d) (here : slice_get d.transfers t ≡ Some y) (told : y.reported ≡ true) (endpoints : new.endpoints ≡ d.endpoints) (transfers : new.transfers ≡ set d.transfers t (record y { released = true })) (notes : new.notes ≡ d.notes) (command : new.command ≡ d.command) (held : HoldsPuts d m puts) (still : HoldsPuts new later puts) (owes : Owes d m puts reported) where
  abbrev gone : Transfer
  gone = record y { released = true }

  there_was : (e : ℕ) (x : Endpoint) → slice_get new.endpoints e ≡ Some x → slice_get d.endpoints e ≡ Some x
  there_was e x at = ap (λ (xs : List Endpoint). slice_get xs e) (sym endpoints) ∙ at

  which : (u : ℕ) (z : Transfer) → slice_get new.transfers u ≡ Some z → ((u ≡ t) × (z ≡ gone)) ⊎ (slice_get d.transfers u ≡ Some z)
  which u z at = set_which d.transfers t u y gone z here (ap (λ (ts : List Transfer). slice_get ts u) (sym transfers) ∙ at)

  -- one that waits isn't the one that goes
  waits_still : (e u : ℕ) (z : Transfer) → slice_get d.transfers u ≡ Some z → waits_for e z ≡ true → slice_get new.transfers u ≡ Some z
  waits_still e u z at waits =
      let differs : u ≢ t = λ same. true≢false (sym told ∙ ap (λ (r : Transfer). r.reported) (same_Some y z (sym here ∙ ap (slice_get d.transfers) (sym same) ∙ at)) ∙ (waits_is e z waits).1) in
      ap (λ (ts : List Transfer). slice_get ts u) transfers ∙ set_there d.transfers t u gone differs ∙ at

  there_before : (x : Endpoint) → IsThere new x → IsThere d x
  there_before x is = record { linked = λ opens. is.linked (command ∙ opens); kept = is.kept }

  rest_stays : (e : ℕ) (x : Endpoint) → slice_get d.endpoints e ≡ Some x → x.gone ≡ false → receives x.desc.name.way ≡ false → rest_of new later e ≡ rest_of d m e
  rest_stays e x at alive sends =
      ap (λ (ts : List Transfer). rest_from later new.notes e ts) transfers ∙ ap (λ (ns : List QtdNote). rest_from later ns e (set d.transfers t gone)) notes
      ∙ rest_set later d.notes e t d.transfers y gone here (one_none later d.notes e gone (reported_not e gone told) ∙ sym (one_none later d.notes e y (reported_not e y told)))
      ∙ rest_alike m later d.notes d.notes e d.transfers
      (λ u z there waits.
      let own = waits_is e z waits in
      let released = kept d u z turns there (not_gone d e x z at alive own.0) own.1 in
      held_left later d.notes z (puts u) (turns.turns.places u z there released)
      (ap (λ (ns : List QtdNote). held_bytes later ns z.first z.qtds) (sym notes) ∙ still.each u z (waits_still e u z there waits) (its_sort d e u x z turns at sends there own.0) released)
      ∙ sym (its_bytes d m puts e u x z turns held at alive sends there waits))

  puts_stay : (e : ℕ) → concat (puts_of new puts e) ≡ concat (puts_of d puts e)
  puts_stay e = ap (λ (ts : List Transfer). concat (puts_from puts e 0 ts)) transfers ∙ ap concat (puts_set puts e t d.transfers y gone here refl)

  pub gone_owes : Owes new later puts reported
  gone_owes = record {
    going = λ e x at meets sends goes.
        let there = there_was e x at in
        ap (λ (bs : List ℕ). reported (32 * x.queue) ++ bs) (rest_stays e x there meets.kept sends) ∙ owes.going e x there (there_before x meets) sends goes ∙ sym (puts_stay e);
    over = λ e x cause at meets sends ends.
        let there = there_was e x at in
        prefix_to (reported (32 * x.queue)) (concat (puts_of d puts e)) (concat (puts_of new puts e)) (sym (puts_stay e)) (owes.over e x cause there (there_before x meets) sends ends);
    opening = λ e u x z at alive is there.
        ⊎_elim (λ (own : (u ≡ t) × (z ≡ gone)). λ same. owes.opening e t x y (there_was e x at) alive (sym command ∙ is) here (ap (λ (r : Transfer). r.endpoint) (sym own.1) ∙ same))
        (λ (other : slice_get d.transfers u ≡ Some z). owes.opening e u x z (there_was e x at) alive (sym command ∙ is) other) (which u z there);
    last = λ u z x there at sends goes is stays.
        ⊎_elim (λ (own : (u ≡ t) × (z ≡ gone)). absurd (true≢false (ap (λ (r : Transfer). r.released) (sym own.1) ∙ stays)))
        (λ (other : slice_get d.transfers u ≡ Some z). owes.last u z x other (there_was z.endpoint x at) sends goes is stays) (which u z there);
  }

pub returned_owes : ReturnedOwes
returned_owes d new m later t y puts reported turns here told endpoints transfers notes command held still owes =
    gone_owes d new m later t y puts reported turns here told endpoints transfers notes command held still owes
