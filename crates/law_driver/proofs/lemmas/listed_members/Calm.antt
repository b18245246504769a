-- Events that link and unlink no member of the frame list.
use Rattle.std.proofs.Common.{◌≡◌, ℕ, zero, suc, ◌-◌, ◌==◌, Bool, true, false, not, ◌&&◌, cond, nat_lt, List, [], ◌∷◌, ◌++◌, length, set, slice_get, Option, Some, None, ap, sym, subst, ◌∙◌, refl}
use Rattle.std.proofs.lemmas.Bool.{false≢true}
use Rattle.usb_base.specs.declared.endpoints.EpName.{EpName}
use Rattle.usb_base.specs.declared.endpoints.EndCause.{EndCause}
use Rattle.usb_base.specs.declared.endpoints.EndCause.TheVariants as causes
use Rattle.usb_base.specs.declared.reports.What.TheVariants as lines
use Rattle.word_mem.specs.Memory.{Mem}
use Rattle.drv_periodic_table.specs.Periodic.{PeriodicContent}
use Rattle.drv_table.specs.declared.content.Endpoint.{Endpoint}
use Rattle.drv_table.specs.declared.content.Transfer.{Transfer}
use Rattle.drv_table.specs.declared.content.Sort.{Sort}
use Rattle.drv_table.specs.declared.content.Reserve.{Reserve}
use Rattle.drv_table.specs.declared.content.Sort.TheVariants as sorts
use Rattle.drv_table.specs.declared.content.Command.{Command}
use Rattle.drv_table.specs.declared.content.Command.TheVariants as unfinished
use Rattle.drv_table.specs.declared.rows.Found.{Found}
use Rattle.drv_table.specs.declared.rows.Found.TheVariants as founds
use Rattle.drv_table.specs.DriverContent.{DriverContent, waits_for, next_after}
use Rattle.drv_table.specs.Harvests.{note_at, noted, is_stall, end_of, reported}
use Rattle.drv_table.specs.Commands.{events_of, links, leave_ring, no_command, finished, linked_on, advanced_by}
use Rattle.drv_table.specs.Harvesting.{found_of, served, told_with, goes_on, behind_one, behind, stalled, mends_of, after_end, harvested_as, after_harvest}
use Rattle.claims_driver.specs.Owners.{is_descriptor}
use Rattle.law_driver.proofs.lemmas.run_owners.Released.{same_by_test}
use Rattle.law_driver.proofs.lemmas.run_owners.Orders.{set_case}
use Rattle.law_driver.proofs.lemmas.run_owners.Harvest.{is_served_found}
use Rattle.claims_driver.specs.FrameListMembers.{framed_in, is_chained, placed_of}
use Rattle.law_driver.specs.listed_members.Members.{IsIdle, IsUnderWay, IsListed}
use Rattle.law_driver.proofs.lemmas.listed_members.Stays.{is_still, SameEndpoints, SameTransfers, SameTables, tables, all_endpoints, all_transfers, both_endpoints, both_transfers, endpoint_set, transfer_set, tables_list}

-- ---- commands that aren't of the frame list

abbrev pub is_calm : Option Command → Bool
is_calm None = true
is_calm (Some c) = not (links c)

pub calm_still : (c : Option Command) → is_calm c ≡ true → is_still c ≡ true
calm_still (Some unfinished.Chain) calm = absurd (false≢true calm)
calm_still (Some (unfinished.Iso e first count)) calm = absurd (false≢true calm)
calm_still (Some (unfinished.Unchain e)) calm = absurd (false≢true calm)
calm_still _ calm = refl

pub calm_idle : (d : DriverContent) (c : Option Command) → is_calm c ≡ true → IsUnderWay d c → IsIdle d.periodic
calm_idle d (Some unfinished.Chain) calm way = absurd (false≢true calm)
calm_idle d (Some (unfinished.Iso e first count)) calm way = absurd (false≢true calm)
calm_idle d (Some (unfinished.Unchain e)) calm way = absurd (false≢true calm)
calm_idle d _ calm way = way

pub idle_calm : (d : DriverContent) (c : Option Command) → is_calm c ≡ true → IsIdle d.periodic → IsUnderWay d c
idle_calm d (Some unfinished.Chain) calm idle = absurd (false≢true calm)
idle_calm d (Some (unfinished.Iso e first count)) calm idle = absurd (false≢true calm)
idle_calm d (Some (unfinished.Unchain e)) calm idle = absurd (false≢true calm)
idle_calm d _ calm idle = idle

-- the list and what is queued stay, and no command is one of the list
pub calm_listed : (d e : DriverContent) → SameTables d e → (IsIdle d.periodic → IsIdle e.periodic) → is_calm d.command ≡ true → is_calm e.command ≡ true → IsListed d → IsListed e
calm_listed d e same idle before after old = record {
  list = tables_list d e same (calm_still d.command before) (calm_still e.command after) old.list;
  way = idle_calm e e.command after (idle (calm_idle d d.command before old.way));
}

-- ---- what is left of periodic endpoints, of endpoints and transfers as the list has them, and of the command

pub record IsQuiet (d e : DriverContent) : Type 0 where
  pub periodic : e.periodic ≡ d.periodic
  pub endpoints : SameEndpoints d.endpoints e.endpoints
  pub transfers : SameTransfers d.transfers e.transfers
  pub room : e.room ≡ d.room
  pub calm : is_calm d.command ≡ true → is_calm e.command ≡ true

pub quiet : (d : DriverContent) → IsQuiet d d
quiet d = record { periodic = refl; endpoints = all_endpoints d.endpoints; transfers = all_transfers d.transfers; room = refl; calm = λ c. c }

pub both : (d e f : DriverContent) → IsQuiet d e → IsQuiet e f → IsQuiet d f
both d e f one two = record {
  periodic = two.periodic ∙ one.periodic;
  endpoints = both_endpoints d.endpoints e.endpoints f.endpoints one.endpoints two.endpoints;
  transfers = both_transfers d.transfers e.transfers f.transfers one.transfers two.transfers;
  room = two.room ∙ one.room;
  calm = λ c. two.calm (one.calm c);
}

pub either : (d x y : DriverContent) (b : Bool) → IsQuiet d x → IsQuiet d y → IsQuiet d (cond b x y)
either d x y true one two = one
either d x y false one two = two

pub quiet_listed : (d e : DriverContent) → IsQuiet d e → is_calm d.command ≡ true → IsListed d → IsListed e
quiet_listed d e same calm old =
    calm_listed d e
    (tables d e (ap (λ (q : PeriodicContent). q.list) same.periodic) (ap (λ (q : PeriodicContent). q.notes) same.periodic) (ap (λ (q : PeriodicContent). q.unlinks) same.periodic) same.endpoints same.transfers (ap (λ (r : Reserve). r.transfers) same.room))
    (λ idle. subst (λ (q : PeriodicContent). IsIdle q) (sym same.periodic) idle) calm (same.calm calm) old

-- ---- a command goes on

none_quiet : (d : DriverContent) → IsQuiet d (no_command d)
none_quiet d = record { periodic = refl; endpoints = all_endpoints d.endpoints; transfers = all_transfers d.transfers; room = refl; calm = λ c. refl }

ring_quiet : (d : DriverContent) (e : ℕ) (o : Option Endpoint) → slice_get d.endpoints e ≡ o → IsQuiet d (leave_ring d e o)
ring_quiet d e None here = quiet d
ring_quiet d e (Some x) here =
    either d _ d x.linked
    (record { periodic = refl; endpoints = endpoint_set d.endpoints e x (record x { linked = false }) here refl refl (λ off. off); transfers = all_transfers d.transfers; room = refl; calm = λ c. c }) (quiet d)

done_quiet : (d : DriverContent) (c : Command) → links c ≡ false → IsQuiet d (finished d c)
done_quiet d (unfinished.Open q) off = none_quiet d
done_quiet d (unfinished.Publish b words) off = none_quiet d
done_quiet d (unfinished.Unlink e b link) off =
    both d (no_command d) (leave_ring (no_command d) e (slice_get d.endpoints e)) (none_quiet d) (ring_quiet (no_command d) e (slice_get d.endpoints e) refl)
done_quiet d _ off = absurd (false≢true (sym off))

pub goes_quiet : (d : DriverContent) (c : Command) → links c ≡ false → IsQuiet d (advanced_by d (Some c))
goes_quiet d c off =
    either d (record d { made = suc d.made }) (cond (links c) (linked_on d c) (finished d c)) (nat_lt (suc d.made) (length (events_of c)))
    (record { periodic = refl; endpoints = all_endpoints d.endpoints; transfers = all_transfers d.transfers; room = refl; calm = λ k. k })
    (subst (λ b. IsQuiet d (cond b (linked_on d c) (finished d c))) (sym off) (done_quiet d c off))

-- ---- harvest of a transfer with qTDs

-- no transfer of the endpoint is a descriptor
abbrev pub ArePlain : ℕ → List Transfer → Type 0
ArePlain e ts = (k : ℕ) (y : Transfer) → slice_get ts k ≡ Some y → y.endpoint ≡ e → is_descriptor y.sort ≡ false

plain_set : (e k : ℕ) (ts : List Transfer) (y z : Transfer) → slice_get ts k ≡ Some y → z.endpoint ≡ y.endpoint → z.sort ≡ y.sort → ArePlain e ts → ArePlain e (set ts k z)
plain_set e k ts y z there endpoint sort all i w here at =
    set_case (λ j (v : Transfer). v.endpoint ≡ e → is_descriptor v.sort ≡ false) ts k i y z w there here
    (λ same. ap (λ (s : Sort). is_descriptor s) sort ∙ all k y there (sym endpoint ∙ same)) (λ differs was same. all i w was same) at

plain_reported : (y : Transfer) → is_descriptor y.sort ≡ false → (zs : List Endpoint) → placed_of zs (record y { reported = true }) ≡ placed_of zs y
plain_reported y off zs =
    ap (λ b. cond b (Some (record { endpoint = y.endpoint; block = y.first; waits = false })) None) off
    ∙ sym (ap (λ b. cond b (Some (record { endpoint = y.endpoint; block = y.first; waits = not y.reported && is_chained (framed_in zs y.endpoint) })) None) off)

waits_at : (e : ℕ) (y : Transfer) → waits_for e y ≡ true → y.endpoint ≡ e
waits_at e y waits = same_by_test y.endpoint e (first (y.endpoint == e) (not y.reported) waits)
  where
    first : (a b : Bool) → a && b ≡ true → a ≡ true
    first true b h = refl
    first false b h = h

-- and none afterwards
record IsPlainStep (e : ℕ) (d f : DriverContent) : Type 0 where
  quiet : IsQuiet d f
  plain : ArePlain e f.transfers

one_plain : (d : DriverContent) (e : ℕ) (name : EpName) (k : ℕ) (o : Option Transfer) → slice_get d.transfers k ≡ o → ArePlain e d.transfers → IsPlainStep e d (behind_one d e name k o)
one_plain d e name k None there plain = record { quiet = quiet d; plain = plain }
one_plain d e name k (Some y) there plain = at (waits_for e y) refl
  where
    at : (b : Bool) → waits_for e y ≡ b → IsPlainStep e d (cond b (record (reported d (lines.Halt causes.Stall) name []) { transfers = set d.transfers k (record y { reported = true }); harvested = d.harvested ++ k ∷ [] }) d)
    at false off = record { quiet = quiet d; plain = plain }
    at true on =
        let sort = plain k y there (waits_at e y on) in
        record {
          quiet = record {
            periodic = refl;
            endpoints = all_endpoints d.endpoints;
            transfers = transfer_set d.transfers k y (record y { reported = true }) there (plain_reported y sort);
            room = refl;
            calm = λ c. c;
          };
          plain = plain_set e k d.transfers y (record y { reported = true }) there refl refl plain;
        }

behind_quiet : (d : DriverContent) (e : ℕ) (name : EpName) (k n : ℕ) → ArePlain e d.transfers → IsQuiet d (behind d e name k n)
unfolding behind
behind_quiet d e name k zero plain = quiet d
behind_quiet d e name k (suc n) plain =
    let one = one_plain d e name k (slice_get d.transfers k) refl plain in
    both d (behind_one d e name k (slice_get d.transfers k)) (behind (behind_one d e name k (slice_get d.transfers k)) e name (suc k) n)
    one.quiet (behind_quiet (behind_one d e name k (slice_get d.transfers k)) e name (suc k) n one.plain)

stalled_quiet : (d : DriverContent) (e t : ℕ) (x : Endpoint) → slice_get d.endpoints e ≡ Some x → ArePlain e d.transfers → IsQuiet d (stalled d e t x)
stalled_quiet d e t x here plain =
    let now = record d { harvested = d.harvested ++ t ∷ []; endpoints = set d.endpoints e (record x { next = None }); mends = d.mends ++ mends_of x } in
    both d now (stalled d e t x)
    (record { periodic = refl; endpoints = endpoint_set d.endpoints e x (record x { next = None }) here refl refl (λ off. off); transfers = all_transfers d.transfers; room = refl; calm = λ c. c })
    (behind_quiet now e x.desc.name (suc t) (length d.transfers - suc t) plain)

end_quiet : (d : DriverContent) (e t : ℕ) (x : Endpoint) (stall : Bool) (o : Option EndCause) → slice_get d.endpoints e ≡ Some x → ArePlain e d.transfers → IsQuiet d (after_end d e t x stall o)
end_quiet d e t x stall (Some cause) here plain =
    record { periodic = refl; endpoints = endpoint_set d.endpoints e x (record x { ended = Some cause }) here refl refl (λ off. off); transfers = all_transfers d.transfers; room = refl; calm = λ c. c }
end_quiet d e t x stall None here plain =
    either d (stalled d e t x) (goes_on d e t x) stall (stalled_quiet d e t x here plain)
    (record { periodic = refl; endpoints = endpoint_set d.endpoints e x (record x { next = next_after d.transfers e t }) here refl refl (λ off. off); transfers = all_transfers d.transfers; room = refl; calm = λ c. c })

-- what ends is no descriptor
abbrev pub is_ended_found : Found → Bool
is_ended_found (founds.Ended n what) = true
is_ended_found _ = false

ended_by : (b : Bool) (errors : ℕ) → is_ended_found (cond b (founds.Served errors) founds.Active) ≡ true → ⊥
ended_by true errors on = false≢true on
ended_by false errors on = false≢true on

pub ended_plain : (d : DriverContent) (m : Mem) (y : Transfer) (s : Sort) → is_ended_found (found_of d m y s) ≡ true → is_descriptor s ≡ false
ended_plain d m y sorts.Descriptor on = absurd (ended_by _ _ on)
ended_plain d m y _ on = refl

read_quiet : (d : DriverContent) (m : Mem) (e t : ℕ) (x : Endpoint) (y : Transfer) (found : Found) → is_served_found found ≡ false → slice_get d.endpoints e ≡ Some x → slice_get d.transfers t ≡ Some y → y.endpoint ≡ e → (is_ended_found found ≡ true → ArePlain e d.transfers) → IsQuiet d (harvested_as d m e t x y found)
read_quiet d m e t x y founds.Active off here there at plain = quiet d
read_quiet d m e t x y (founds.Moved n) off here there at plain =
    record {
      periodic = refl;
      endpoints = all_endpoints d.endpoints;
      transfers = transfer_set d.transfers t y (record y { place = (note_at d.notes y.place).next; left = y.left - 1 }) there (λ zs. refl);
      room = refl;
      calm = λ c. c;
    }
read_quiet d m e t x y (founds.Served errors) off here there at plain = absurd (false≢true (sym off))
read_quiet d m e t x y (founds.Ended n what) off here there at plain =
    let all = plain refl in
    let told = told_with d m t y what x.desc.name (noted d.notes y.place n) in
    both d told (after_end told e t x (is_stall what) (end_of x.desc.kind what))
    (record {
      periodic = refl;
      endpoints = all_endpoints d.endpoints;
      transfers = transfer_set d.transfers t y (record y { reported = true }) there (plain_reported y (all t y there at));
      room = refl;
      calm = λ c. c;
    })
    (end_quiet told e t x (is_stall what) (end_of x.desc.kind what) here (plain_set e t d.transfers y (record y { reported = true }) there refl refl all))

pub harvest_quiet : (d : DriverContent) (m : Mem) (e t : ℕ) (found : Found) (x : Endpoint) (y : Transfer) → is_served_found found ≡ false → slice_get d.endpoints e ≡ Some x → slice_get d.transfers t ≡ Some y → (is_ended_found found ≡ true → ArePlain e d.transfers) → IsQuiet d (after_harvest d m e t found (Some x) (Some y))
harvest_quiet d m e t found x y off here there plain = at (waits_for e y) refl
  where
    at : (b : Bool) → waits_for e y ≡ b → IsQuiet d (cond b (served (harvested_as d m e t x y found) e) d)
    at false not = quiet d
    at true on =
        let read = harvested_as d m e t x y found in
        both d read (served read e) (read_quiet d m e t x y found off here there (waits_at e y on) plain)
        (record { periodic = refl; endpoints = all_endpoints read.endpoints; transfers = all_transfers read.transfers; room = refl; calm = λ c. c })
