-- What is owed after a harvest: the bytes that it reports are still to be sent no more.
use Rattle.std.proofs.Common.{◌≡◌, ◌≢◌, ℕ, suc, ◌-◌, ◌*◌, ◌<◌, true, false, List, [], ◌++◌, set, drop, slice_get, Option, Some, None, option_map, ap, refl, sym, subst, ◌∙◌, ⊎_elim, arith}
use Rattle.std.specs.List.{concat}
use Rattle.std.proofs.lemmas.Bool.{cases_eq, true≢false}
use Rattle.std.proofs.lemmas.List.{append_assoc}
use Rattle.law_driver.proofs.Common.{others_wait}
use Rattle.law_queues.proofs.Common.{none_open, last_one, after_both}
use Rattle.law_common.proofs.Lists.{set_here, set_there}
use Rattle.law_world.proofs.Common.{moved_few}
use Rattle.law_driver.proofs.Common.{waits_is}
use Rattle.claims_base.specs.Prefix.{IsPrefix}
use Rattle.usb_base.specs.declared.endpoints.EndCause.{EndCause}
use Rattle.word_mem.specs.Memory.{Mem}
use Rattle.drv_table.specs.declared.content.Endpoint.{Endpoint}
use Rattle.drv_table.specs.declared.content.Transfer.{Transfer}
use Rattle.drv_table.specs.declared.content.QtdNote.{QtdNote}
use Rattle.drv_table.specs.DriverContent.{DriverContent, waits_for}
use Rattle.drv_table.specs.Harvests.{note_at, token_in, moved_of, is_get, buffer_bytes}
use Rattle.law_driver.specs.endpoint_lives.Lives.{told_end}
use Rattle.law_driver.proofs.lemmas.endpoint_lives.Lives.{none_told, told_uncancelled}
use Rattle.claims_driver.specs.Owners.{note_in}
use Rattle.claims_driver.specs.Scripts.{receives}
use Rattle.law_driver.specs.chained_transfers.Asynchronous.{StandsAsynchronous}
use Rattle.law_driver.specs.chained_transfers.AsynchronousTurns.{AsynchronousTakesTurns}
use Rattle.law_driver.specs.chained_transfers.Turns.{IsAtPlace, turn_of, turn_in, AreReportedTo}
use Rattle.law_driver.proofs.lemmas.chained_transfers.Rows.{set_which}
use Rattle.law_driver.proofs.lemmas.chained_transfers.Staying.{stands_alive, stands_fresh}
use Rattle.law_driver_ring.specs.fed_queues.Places.{IsThere}
use Rattle.law_world.specs.streams.put_laws.Held.{held_bytes}
use Rattle.law_world.proofs.lemmas.streams.lemmas.put_laws.HeldAlike.{held_alike}
use Rattle.law_world.specs.streams.put_laws.TakenPuts.{puts_from, puts_of}
use Rattle.law_world.specs.streams.put_laws.Owed.{rest_from, rest_of, Owes}
use Rattle.law_world.specs.streams.put_laws.OwedLaws.{IsMovedWhole}
use Rattle.law_world.proofs.lemmas.streams.lemmas.put_laws.Bytes.{begins_buffer, held_first, held_none}
use Rattle.law_world.proofs.lemmas.streams.lemmas.put_laws.Rests.{prefix_to, prefix_of, waits_on, reported_not, one_rest, one_waits, one_none, rest_alike, rest_set, rest_first, dropped_set, puts_set}
use Rattle.law_world.proofs.lemmas.streams.lemmas.put_laws.Same.{not_gone, kept, its_sort, idle_there}
use Rattle.law_world.proofs.lemmas.streams.lemmas.put_laws.Harvests.{HowRead, on, done, halts, ReadsTo}

none_some : (o : Option EndCause) (cause : EndCause) → o ≡ None → o ≡ Some cause → ⊥
none_some o cause none some = let e : ◌≡◌ {A = Option EndCause} None (Some cause) = sym none ∙ some in cc

module _ (d new : DriverContent) (m : Mem) (e t : ℕ) (x : Endpoint) (y : Transfer) (turns : AsynchronousTakesTurns d) (idle : d.command ≡ None) (here : slice_get d.endpoints e ≡ Some x) (goes : x.ended ≡ None) (next : x.next ≡ Some t) (there : slice_get d.transfers t ≡ Some y) (waits : waits_for e y ≡ true) (k : ReadsTo d new m e t x y) (puts reported told : ℕ → List ℕ) (bytes : List ℕ) (bytes_is : receives x.desc.name.way ≡ false → bytes ≡ buffer_bytes m (note_at d.notes y.place) (moved_of (note_at d.notes y.place).told (token_in m y.place).total)) (whole : receives x.desc.name.way ≡ false → IsMovedWhole d m y) (told_here : told (32 * x.queue) ≡ reported (32 * x.queue) ++ bytes) (told_beside : (f : ℕ) (v : Endpoint) → f ≢ e → slice_get d.endpoints f ≡ Some v → v.gone ≡ false → receives v.desc.name.way ≡ false → told (32 * v.queue) ≡ reported (32 * v.queue)) (owes : Owes d m puts reported) where
  abbrev note : QtdNote
  note = note_at d.notes y.place

  abbrev n : ℕ
  n = 32 * x.queue

  -- the bytes of the later transfers
  abbrev others : List ℕ
  others = rest_from m d.notes e (drop (suc t) d.transfers)

  own : (y.endpoint ≡ e) × (y.reported ≡ false)
  own = waits_is e y waits

  standing : StandsAsynchronous x
  standing = turns.asynchronous.endpoints e x here

  its_alive : x.gone ≡ false
  its_alive = stands_alive x standing goes

  -- it goes on as far as its report has it, and so where it ends now
  goes_told : told_end x ≡ None
  goes_told = none_told x goes

  going_now : told_end k.endpoint ≡ None → k.endpoint.ended ≡ None
  going_now none = sym (told_uncancelled k.endpoint (k.cancelled ∙ stands_fresh x standing goes)) ∙ none

  at : IsAtPlace (note_in d.notes) y
  at = turns.turns.places t y there (kept d t y turns there (not_gone d e x y here its_alive own.0) own.1)

  left_is : y.left ≡ suc (y.left - 1)
  left_is = let some = at.some in omega (arith, some)

  was_there : (v : Endpoint) → v.gone ≡ false → IsThere d v
  was_there v still = idle_there d idle v still

  before : (u : ℕ) (z : Transfer) → u < t → slice_get d.transfers u ≡ Some z → waits_for e z ≡ false
  before u z less there_z =
      let first = subst (AreReportedTo (turn_in d.transfers) e) next (turns.turns.turns.next e x here goes_told) in
      ⊎_elim (λ (same : z.endpoint ≡ e). reported_not e z (first.before u (turn_of z) less (ap (option_map turn_of) there_z) same)) (λ (differs : z.endpoint ≢ e). others_wait e z differs) (cases_eq z.endpoint e)

  -- ---- what is still to be sent

  rest_was : rest_of d m e ≡ held_bytes m d.notes y.place y.left ++ others
  rest_was = rest_first m d.notes e t d.transfers y there before ∙ ap (λ (us : List ℕ). us ++ others) (one_waits m d.notes e y waits)

  noted_now : (f : ℕ) (ts : List Transfer) → rest_from m new.notes f ts ≡ rest_from m d.notes f ts
  noted_now f ts = rest_alike m m d.notes new.notes f ts (λ u z at_u waits_u. held_alike m m d.notes new.notes z.place z.left (λ i below. k.notes _) (λ i below. refl))

  rest_now : rest_of new m e ≡ one_rest m d.notes e k.transfer ++ others
  rest_now =
      ap (rest_from m new.notes e) k.transfers ∙ noted_now e (set d.transfers t k.transfer)
      ∙ rest_first m d.notes e t (set d.transfers t k.transfer) k.transfer (set_here d.transfers t y k.transfer there)
      (λ u z less at_u. before u z less (sym (set_there d.transfers t u k.transfer (λ (same : u ≡ t). omega (arith, less, same))) ∙ at_u))
      ∙ ap (λ (us : List Transfer). one_rest m d.notes e k.transfer ++ rest_from m d.notes e us) (dropped_set t d.transfers k.transfer)

  -- of another endpoint nothing changes
  rest_beside : (f : ℕ) → f ≢ e → rest_of new m f ≡ rest_of d m f
  rest_beside f differs =
      ap (rest_from m new.notes f) k.transfers ∙ noted_now f (set d.transfers t k.transfer)
      ∙ rest_set m d.notes f t d.transfers y k.transfer there
      (one_none m d.notes f k.transfer (others_wait f k.transfer (λ is. differs (sym is ∙ k.its_endpoint ∙ own.0))) ∙ sym (one_none m d.notes f y (others_wait f y (λ is. differs (sym is ∙ own.0)))))

  puts_same : (f : ℕ) → concat (puts_of new puts f) ≡ concat (puts_of d puts f)
  puts_same f = ap (λ (ts : List Transfer). concat (puts_from puts f 0 ts)) k.transfers ∙ ap concat (puts_set puts f t d.transfers y k.transfer there k.its_endpoint)

  -- ---- of the endpoint itself

  all_moved : receives x.desc.name.way ≡ false → (token_in m y.place).halted ≡ false → bytes ≡ buffer_bytes m (note_at d.notes y.place) (note_at d.notes y.place).told
  all_moved sends going = bytes_is sends ∙ ap (buffer_bytes m (note_at d.notes y.place)) (whole sends going)

  held_is : held_bytes m d.notes y.place y.left ≡ buffer_bytes m (note_at d.notes y.place) (note_at d.notes y.place).told ++ held_bytes m d.notes (note_at d.notes y.place).next (y.left - 1)
  held_is = ap (held_bytes m d.notes y.place) left_is ∙ held_first m d.notes y.place (y.left - 1)

  pays : receives x.desc.name.way ≡ false → HowRead d m y k.transfer k.endpoint → k.endpoint.ended ≡ None → bytes ++ one_rest m d.notes e k.transfer ≡ held_bytes m d.notes y.place y.left
  pays sends (on is ended going) none =
      ap (λ (z : Transfer). bytes ++ one_rest m d.notes e z) is
      ∙ ap (λ (us : List ℕ). bytes ++ us) (one_waits m d.notes e (record y { place = (note_at d.notes y.place).next; left = y.left - 1 }) (waits_on e (record y { place = (note_at d.notes y.place).next; left = y.left - 1 }) own.0 own.1))
      ∙ ap (λ (us : List ℕ). us ++ held_bytes m d.notes (note_at d.notes y.place).next (y.left - 1)) (all_moved sends going) ∙ sym held_is
  pays sends (done is ended last going) none =
      ap (λ (z : Transfer). bytes ++ one_rest m d.notes e z) is ∙ ap (λ (us : List ℕ). bytes ++ us) (one_none m d.notes e (record y { reported = true }) (reported_not e (record y { reported = true }) refl))
      ∙ ap (λ (us : List ℕ). us ++ []) (all_moved sends going)
      ∙ ap (λ (us : List ℕ). buffer_bytes m (note_at d.notes y.place) (note_at d.notes y.place).told ++ us) (sym (held_none m d.notes (note_at d.notes y.place).next))
      ∙ sym (ap (held_bytes m d.notes y.place) last ∙ held_first m d.notes y.place 0)
  pays sends (halts cause is ended halted) none = absurd (none_some k.endpoint.ended cause none ended)

  going_on : receives x.desc.name.way ≡ false → k.endpoint.ended ≡ None → told (32 * x.queue) ++ rest_of new m e ≡ concat (puts_of d puts e)
  going_on sends none =
      let rest = one_rest m d.notes e k.transfer in
      ap (λ (us : List ℕ). us ++ rest_of new m e) told_here ∙ ap (λ (us : List ℕ). (reported (32 * x.queue) ++ bytes) ++ us) rest_now ∙ append_assoc (reported (32 * x.queue)) bytes (rest ++ others)
      ∙ ap (λ (us : List ℕ). reported (32 * x.queue) ++ us)
      (sym (append_assoc bytes rest others) ∙ ap (λ (us : List ℕ). us ++ others) (pays sends (k.how (ap is_get (its_sort d e t x y turns here sends there own.0))) none) ∙ sym rest_was)
      ∙ owes.going e x here (was_there x its_alive) sends goes_told

  begins : receives x.desc.name.way ≡ false → IsPrefix (told (32 * x.queue)) (concat (puts_of d puts e))
  begins sends =
      let buffer = buffer_bytes m (note_at d.notes y.place) (note_at d.notes y.place).told in
      let own_bytes : IsPrefix bytes buffer =
      prefix_of bytes (buffer_bytes m (note_at d.notes y.place) (moved_of (note_at d.notes y.place).told (token_in m y.place).total)) buffer (bytes_is sends)
      (begins_buffer m (note_at d.notes y.place) (note_at d.notes y.place).told (moved_of (note_at d.notes y.place).told (token_in m y.place).total) (moved_few (note_at d.notes y.place).told (token_in m y.place).total)) in
      let further = held_bytes m d.notes (note_at d.notes y.place).next (y.left - 1) in
      let rest_begins : IsPrefix bytes (rest_of d m e) =
      prefix_to bytes ((buffer ++ further) ++ others) (rest_of d m e) (ap (λ (us : List ℕ). us ++ others) (sym held_is) ∙ sym rest_was)
      (last_one bytes (buffer ++ further) others (last_one bytes buffer further own_bytes)) in
      prefix_of (told (32 * x.queue)) (reported (32 * x.queue) ++ bytes) (concat (puts_of d puts e)) told_here
      (prefix_to (reported (32 * x.queue) ++ bytes) (reported (32 * x.queue) ++ rest_of d m e) (concat (puts_of d puts e)) (owes.going e x here (was_there x its_alive) sends goes_told)
      (after_both (reported (32 * x.queue)) bytes (rest_of d m e) rest_begins))

  -- ---- all of them

  same_way : (v : Endpoint) → v ≡ k.endpoint → receives v.desc.name.way ≡ false → receives x.desc.name.way ≡ false
  same_way v is sends = ap (λ (z : _). receives z.name.way) (sym k.desc) ∙ ap (λ (z : Endpoint). receives z.desc.name.way) (sym is) ∙ sends

  same_queue : (v : Endpoint) → v ≡ k.endpoint → v.queue ≡ x.queue
  same_queue v is = ap (λ (z : Endpoint). z.queue) is ∙ k.queue

  last_read : (u : ℕ) (z : Transfer) (v : Endpoint) → slice_get new.transfers u ≡ Some z → slice_get new.endpoints z.endpoint ≡ Some v → receives v.desc.name.way ≡ false → told_end v ≡ None → z.reported ≡ true → z.released ≡ false → z.left ≡ 1
  last_read u z v at_u at_v sends none is held =
      ⊎_elim
      (λ (mine : (u ≡ t) × (z ≡ k.transfer)).
      ⊎_elim
      (λ (its : (z.endpoint ≡ e) × (v ≡ k.endpoint)).
      ap (λ (r : Transfer). r.left) mine.1
      ∙ its_last (k.how (ap is_get (its_sort d e t x y turns here (same_way v its.1 sends) there own.0))) (going_now (ap (λ (r : Endpoint). told_end r) (sym its.1) ∙ none)) (ap (λ (r : Transfer). r.reported) (sym mine.1) ∙ is))
      (λ (apart : (z.endpoint ≢ e) × (slice_get d.endpoints z.endpoint ≡ Some v)). absurd (apart.0 (ap (λ (r : Transfer). r.endpoint) mine.1 ∙ k.its_endpoint ∙ own.0))) (k.ends z.endpoint v at_v))
      (λ (other : slice_get d.transfers u ≡ Some z).
      ⊎_elim
      (λ (its : (z.endpoint ≡ e) × (v ≡ k.endpoint)). owes.last u z x other (ap (slice_get d.endpoints) its.0 ∙ here) (same_way v its.1 sends) goes_told is held)
      (λ (apart : (z.endpoint ≢ e) × (slice_get d.endpoints z.endpoint ≡ Some v)). owes.last u z v other apart.1 sends none is held) (k.ends z.endpoint v at_v))
      (set_which d.transfers t u y k.transfer z there (ap (λ (ts : List Transfer). slice_get ts u) (sym k.transfers) ∙ at_u))
    where
      its_last : HowRead d m y k.transfer k.endpoint → k.endpoint.ended ≡ None → k.transfer.reported ≡ true → k.transfer.left ≡ 1
      its_last (on is_y ended going) no_end told_it = absurd (true≢false (sym told_it ∙ ap (λ (r : Transfer). r.reported) is_y ∙ own.1))
      its_last (done is_y ended last going) no_end told_it = ap (λ (r : Transfer). r.left) is_y ∙ last
      its_last (halts cause is_y ended halted) no_end told_it = absurd (none_some k.endpoint.ended cause no_end ended)

  pub paid_owes : Owes new m puts told
  paid_owes = record {
    going = λ f v at_v meets sends none.
        ⊎_elim
        (λ (its : (f ≡ e) × (v ≡ k.endpoint)).
        ap (λ (q : ℕ). told (32 * q) ++ rest_of new m f) (same_queue v its.1) ∙ ap (λ (i : ℕ). told (32 * x.queue) ++ rest_of new m i) its.0
        ∙ going_on (same_way v its.1 sends) (going_now (ap (λ (r : Endpoint). told_end r) (sym its.1) ∙ none)) ∙ ap (λ (i : ℕ). concat (puts_of d puts i)) (sym its.0) ∙ sym (puts_same f))
        (λ (apart : (f ≢ e) × (slice_get d.endpoints f ≡ Some v)).
        ap (λ (us : List ℕ). us ++ rest_of new m f) (told_beside f v apart.0 apart.1 meets.kept sends) ∙ ap (λ (us : List ℕ). reported (32 * v.queue) ++ us) (rest_beside f apart.0)
        ∙ owes.going f v apart.1 (was_there v meets.kept) sends none ∙ sym (puts_same f)) (k.ends f v at_v);
    over = λ f v cause at_v meets sends ends.
        ⊎_elim
        (λ (its : (f ≡ e) × (v ≡ k.endpoint)).
        prefix_of (told (32 * v.queue)) (told (32 * x.queue)) (concat (puts_of new puts f)) (ap (λ (q : ℕ). told (32 * q)) (same_queue v its.1))
        (prefix_to (told (32 * x.queue)) (concat (puts_of d puts e)) (concat (puts_of new puts f)) (ap (λ (i : ℕ). concat (puts_of d puts i)) (sym its.0) ∙ sym (puts_same f)) (begins (same_way v its.1 sends))))
        (λ (apart : (f ≢ e) × (slice_get d.endpoints f ≡ Some v)).
        prefix_of (told (32 * v.queue)) (reported (32 * v.queue)) (concat (puts_of new puts f)) (told_beside f v apart.0 apart.1 meets.kept sends)
        (prefix_to (reported (32 * v.queue)) (concat (puts_of d puts f)) (concat (puts_of new puts f)) (sym (puts_same f)) (owes.over f v cause apart.1 (was_there v meets.kept) sends ends))) (k.ends f v at_v);
    opening = λ f u v z at_v still is at_u. absurd (none_open v.queue (sym idle ∙ sym k.command ∙ is));
    last = last_read;
  }
