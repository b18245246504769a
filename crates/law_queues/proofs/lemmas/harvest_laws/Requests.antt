-- The harvest of a qTD of an endpoint without a stream tells nothing of the streams.
use Rattle.std.proofs.Common.{◌≡◌, ◌≢◌, ℕ, zero, suc, ◌-◌, ◌*◌, ◌≤◌, nat_eq, nat_le, Bool, true, false, if◌then◌else◌, List, [], ◌∷◌, ◌++◌, length, take, slice_get, slice_set, Option, Some, None, option_map, ap, refl, sym, subst, ◌∙◌, ⊎_elim, inl, inr, arith}
use Rattle.std.specs.Prelude.{◌⊎◌}
use Rattle.std.proofs.lemmas.Bool.{cases_eq, false≢true}
use Rattle.std.proofs.lemmas.Option.{same_Some}
use Rattle.law_common.proofs.Lists.{set_here, set_there}
use Rattle.law_driver.proofs.Common.{waits_is}
use Rattle.law_queues.proofs.Common.{set_which, after_is}
use Rattle.usb_base.specs.declared.endpoints.EpName.{EpName}
use Rattle.usb_base.specs.declared.endpoints.EndCause.{EndCause}
use Rattle.usb_base.specs.declared.endpoints.EndCause.TheVariants as causes
use Rattle.usb_base.specs.declared.packets.EpKind.TheVariants as kinds
use Rattle.usb_base.specs.declared.reports.Report.{Report}
use Rattle.usb_base.specs.declared.reports.What.{What}
use Rattle.usb_base.specs.declared.reports.What.TheVariants as lines
use Rattle.word_mem.specs.Memory.{Mem}
use Rattle.law_structures.specs.lent_structures.Structures.{StructureSets}
use Rattle.law_ring.specs.Hand.{Hand}
use Rattle.claims_report.specs.Reports.{is_refusal}
use Rattle.claims_report.specs.Streams.{has_stream}
use Rattle.drv_table.specs.declared.content.Endpoint.{Endpoint}
use Rattle.drv_table.specs.declared.content.Transfer.{Transfer}
use Rattle.drv_table.specs.declared.content.QtdNote.{QtdNote}
use Rattle.drv_table.specs.declared.content.Command.TheVariants as unfinished
use Rattle.drv_table.specs.declared.rows.DriverRow.TheVariants as rows
use Rattle.drv_table.specs.declared.rows.Found.{Found}
use Rattle.drv_table.specs.declared.rows.Found.TheVariants as founds
use Rattle.drv_table.specs.DriverContent.{DriverContent, waits_for, next_after}
use Rattle.drv_table.specs.Harvests.{note_at, noted, token_in, moved_of, moved_bytes, halt_of, done_of, ends_by, end_of, is_stall, reported}
use Rattle.drv_table.specs.Parts.{Parts}
use Rattle.drv_table.specs.Harvesting.{served, moved_on, told_with, goes_on, behind_one, behind, stalled, after_end, harvested_as, mends_of}
use Rattle.drv_table.specs.Rows.{after_driver_row}
use Rattle.claims_driver.specs.Owners.{note_in}
use Rattle.claims_driver.specs.Leaving.{HasOwners}
use Rattle.law_driver.specs.run_owners.Due.{IsHarvestDue}
use Rattle.law_driver.specs.chained_transfers.AsynchronousTurns.{AsynchronousTakesTurns}
use Rattle.law_driver.specs.chained_transfers.Out.{out_of}
use Rattle.law_driver.proofs.lemmas.chained_transfers.Ways.{found_by}
use Rattle.law_queues.specs.told_endpoints.Telling.{named_of, named_in, TellsEach}
use Rattle.law_queues.proofs.lemmas.told_endpoints.Tellings.{requests_add_no_stream}
use Rattle.law_driver_ring.specs.told_harvests.Held.{told_of, NotesMoved}
use Rattle.law_driver_ring.proofs.lemmas.told_harvests.Noting.{found_is_noted}
use Rattle.law_driver_ring.specs.fed_queues.Places.{IsThere}
use Rattle.law_queues.specs.harvest_laws.Holds.{IsUnderWay, IsToCome, IsNextOf, HoldsEach}
use Rattle.law_queues.specs.harvest_laws.RowLaws.{IsReadNext}
use Rattle.law_queues.specs.harvest_laws.ReadLaws.{LeavesStreams}
use Rattle.law_queues.specs.harvest_laws.Told.{ToldStands}
use Rattle.law_queues.proofs.lemmas.harvest_laws.Places.{runs_noted, told_noted}
use Rattle.law_queues.proofs.lemmas.harvest_laws.Outing.{out_beside}
use Rattle.law_queues.proofs.lemmas.harvest_laws.Holding.{under_way_beside, to_come_beside}
use Rattle.law_queues.proofs.lemmas.harvest_laws.RowRows.{names_at}
use Rattle.law_queues.proofs.lemmas.harvest_laws.RowHarvesting.{out_new}
use Rattle.law_queues.proofs.lemmas.harvest_laws.Standing.{alike_is_told}
use Rattle.law_queues.proofs.lemmas.harvest_laws.ReadRows.{read_next, its_sort}

-- ---- the requests that wait behind a stalled one

abbrev told_behind : DriverContent → EpName → ℕ → Transfer → DriverContent
told_behind f name k y =
    record (reported f (lines.Halt causes.Stall) name []) {
      transfers = slice_set f.transfers k (record y { reported = true });
      harvested = f.harvested ++ k ∷ [];
    }

one_keeps : (P : DriverContent → Type 0) (e : ℕ) (name : EpName) (f : DriverContent) (k : ℕ) → ((y : Transfer) → slice_get f.transfers k ≡ Some y → waits_for e y ≡ true → P (told_behind f name k y)) → P f
    → (o : Option Transfer) → slice_get f.transfers k ≡ o → P (behind_one f e name k o)
one_keeps P e name f k step p None here = p
one_keeps P e name f k step p (Some y) here = by (waits_for e y) refl
  where
    by : (b : Bool) → waits_for e y ≡ b → P (if b then told_behind f name k y else f)
    by true waits = step y here waits
    by false waits = p

behind_keeps : (P : DriverContent → Type 0) (e : ℕ) (name : EpName) → ((k : ℕ) (f : DriverContent) (y : Transfer) → slice_get f.transfers k ≡ Some y → waits_for e y ≡ true → P f → P (told_behind f name k y))
    → (n k : ℕ) (f : DriverContent) → P f → P (behind f e name k n)
unfolding behind
behind_keeps P e name step zero k f p = p
behind_keeps P e name step (suc n) k f p =
    behind_keeps P e name step n (suc k) (behind_one f e name k (slice_get f.transfers k)) (one_keeps P e name f k (λ y here waits. step k f y here waits p) p (slice_get f.transfers k) refl)

-- ---- what such a harvest changes

module _ (d : DriverContent) (m : Mem) (e t : ℕ) (x : Endpoint) (y : Transfer) (n : IsReadNext d e t x y) (hand : Hand) (parts : StructureSets) (silent : has_stream x.desc.kind ≡ false) (tells_of : ℕ → List ℕ) (k : ToldStands d hand parts tells_of) where
  abbrev count : ℕ
  count = moved_of (note_at d.notes y.place).told (token_in m y.place).total

  -- of the transfers those of this endpoint alone: reported now, or still the next one, as before
  record IsThen (w : Endpoint) (u : ℕ) (z : Transfer) : Type 0 where
    one : Transfer
    here : slice_get d.transfers u ≡ Some one
    first : z.first ≡ one.first
    qtds : z.qtds ≡ one.qtds
    most : z.most ≡ one.most
    released : z.released ≡ one.released
    endpoint : z.endpoint ≡ one.endpoint
    how : ((u ≢ t) × (z ≡ one)) ⊎ ((one.endpoint ≡ e) × ((z.reported ≡ true) ⊎ ((u ≡ t) × (w.next ≡ Some t))))

  record IsAfter (w : Endpoint) (f : DriverContent) : Type 0 where
    desc : w.desc ≡ x.desc
    queue : w.queue ≡ x.queue
    gone : w.gone ≡ x.gone
    its : slice_get f.endpoints e ≡ Some w
    others : (g : ℕ) → g ≢ e → slice_get f.endpoints g ≡ slice_get d.endpoints g
    transfers : (u : ℕ) (z : Transfer) → slice_get f.transfers u ≡ Some z → IsThen w u z
    moved : NotesMoved (note_at d.notes) (note_at f.notes) y.place count
    command : f.command ≡ d.command
    tells : TellsEach f.reports f.store (named_in f.endpoints) k.held k.told
    out : (g : ℕ) → g ≢ e → out_of (note_in d.notes) g None 0 f.transfers ≡ out_of (note_in d.notes) g None 0 d.transfers

  own : (y.endpoint ≡ e) × (y.reported ≡ false)
  own = n.waits e t x y n.next

  module _ (w : Endpoint) (f : DriverContent) (a : IsAfter w f) where
    none_of_it : (v : Endpoint) → v ≡ w → has_stream v.desc.kind ≡ true → ⊥
    none_of_it v is on = false≢true (sym silent ∙ ap (λ z. has_stream z.kind) (sym a.desc) ∙ ap (λ (z : Endpoint). has_stream z.desc.kind) (sym is) ∙ on)

    at_e : (g : ℕ) (v : Endpoint) → g ≡ e → slice_get f.endpoints g ≡ Some v → v ≡ w
    at_e g v is here = same_Some v w (sym here ∙ ap (slice_get f.endpoints) is ∙ a.its)

    at_other : (g : ℕ) (v : Endpoint) → g ≢ e → slice_get f.endpoints g ≡ Some v → slice_get d.endpoints g ≡ Some v
    at_other g v differs here = sym (a.others g differs) ∙ here

    -- the next transfer of another endpoint
    next_beside : (g u : ℕ) (v : Endpoint) (z : Transfer) → g ≢ e → IsNextOf f g u v z → has_stream v.desc.kind ≡ true → IsUnderWay hand parts (32 * v.queue) (note_at f.notes) z (k.held g)
    next_beside g u v z differs is on =
        let q : IsThen w u z = a.transfers u z is.transfer in
        let old : IsNextOf d g u v q.one = record { endpoint = at_other g v differs is.endpoint; going = is.going; next = is.next; transfer = q.here } in
        let own_one : (q.one.endpoint ≡ g) × (q.one.reported ≡ false) = n.waits g u v q.one old in
        let kept : q.one.released ≡ false = n.unreleased u q.one v q.here (ap (slice_get d.endpoints) own_one.0 ∙ old.endpoint) is.going own_one.1 in
        ⊎_elim (λ (same : (u ≢ t) × (z ≡ q.one)).
        subst (λ (s : Transfer). IsUnderWay hand parts (32 * v.queue) (note_at f.notes) s (k.held g)) (sym same.1)
        (under_way_beside d t y.place count hand parts n.places n.others f.notes a.moved u (32 * v.queue) q.one (k.held g) q.here own_one.1 kept same.0 (k.holds.next g u v q.one old on)))
        (λ (mine : (q.one.endpoint ≡ e) × ((z.reported ≡ true) ⊎ ((u ≡ t) × (w.next ≡ Some t)))). absurd (differs (sym own_one.0 ∙ mine.0))) q.how

    -- one that is to come
    old_to_come : (u : ℕ) (z one : Transfer) → slice_get d.transfers u ≡ Some one → u ≢ t → z ≡ one → z.reported ≡ false → z.released ≡ false → ((v : Endpoint) → slice_get f.endpoints z.endpoint ≡ Some v → v.next ≡ Some u → ⊥)
        → IsToCome (note_at f.notes) z
    old_to_come u z one here differs same waits kept other =
        subst (IsToCome (note_at f.notes)) (sym same)
        (to_come_beside d t y.place count hand parts n.places n.others f.notes a.moved u one here waits_one kept_one differs (k.holds.to_come u one here waits_one kept_one not_next))
      where
        waits_one : one.reported ≡ false
        waits_one = ap (λ (s : Transfer). s.reported) (sym same) ∙ waits

        kept_one : one.released ≡ false
        kept_one = ap (λ (s : Transfer). s.released) (sym same) ∙ kept

        not_next : (v : Endpoint) → slice_get d.endpoints one.endpoint ≡ Some v → v.next ≡ Some u → ⊥
        not_next v at is =
            ⊎_elim (λ (mine : one.endpoint ≡ e). differs (same_Some u t (sym is ∙ ap (λ (s : Endpoint). s.next) (same_Some v x (sym at ∙ ap (slice_get d.endpoints) mine ∙ n.next.endpoint)) ∙ n.next.next)))
            (λ (apart : one.endpoint ≢ e). other v (ap (λ (s : Transfer). slice_get f.endpoints s.endpoint) same ∙ a.others one.endpoint apart ∙ at) is) (cases_eq one.endpoint e)

    holds_after : HoldsEach f hand parts k.held
    holds_after = record {
      next = λ g u v z is on.
          ⊎_elim (λ (same : g ≡ e). absurd (none_of_it v (at_e g v same is.endpoint) on)) (λ (differs : g ≢ e). next_beside g u v z differs is on) (cases_eq g e);
      none = λ g v here last on.
          ⊎_elim (λ (same : g ≡ e). absurd (none_of_it v (at_e g v same here) on)) (λ (differs : g ≢ e). k.holds.none g v (at_other g v differs here) last on) (cases_eq g e);
      to_come = λ u z here waits kept other.
          let q : IsThen w u z = a.transfers u z here in
          ⊎_elim (λ (same : (u ≢ t) × (z ≡ q.one)). old_to_come u z q.one q.here same.0 same.1 waits kept other)
          (λ (mine : (q.one.endpoint ≡ e) × ((z.reported ≡ true) ⊎ ((u ≡ t) × (w.next ≡ Some t)))).
          ⊎_elim (λ (ended : z.reported ≡ true). absurd (false≢true (sym waits ∙ ended)))
          (λ (next : (u ≡ t) × (w.next ≡ Some t)). absurd (other w (ap (slice_get f.endpoints) (q.endpoint ∙ mine.0) ∙ a.its) (next.1 ∙ ap Some (sym next.0)))) mine.1) q.how;
      within = λ u z here kept.
          let q : IsThen w u z = a.transfers u z here in
          let same : told_of (note_at f.notes) z.first z.qtds ≡ told_of (note_at d.notes) q.one.first q.one.qtds =
          ap (λ (i : ℕ). told_of (note_at f.notes) i z.qtds) q.first ∙ ap (told_of (note_at f.notes) q.one.first) q.qtds ∙ told_noted (note_at d.notes) (note_at f.notes) y.place count a.moved q.one.first q.one.qtds in
          let most : z.most ≡ q.one.most = q.most in
          let old : told_of (note_at d.notes) q.one.first q.one.qtds ≤ q.one.most = k.holds.within u q.one q.here (sym q.released ∙ kept) in
          omega (arith, same, most, old);
    }

    no_open : (b : ℕ) → None ≡ Some (unfinished.Open b) → ⊥
    no_open b is = cc

    idle : (v : Endpoint) → v.gone ≡ false → IsThere d v
    idle v kept = record { linked = λ opens. no_open v.queue (sym n.command ∙ opens); kept = kept }

    stands_after : ToldStands f hand parts tells_of
    stands_after = record {
      held = k.held;
      told = k.told;
      holds = holds_after;
      tells = a.tells;
      met = λ g v here meets.
          ⊎_elim (λ (same : g ≡ e).
          let is : v ≡ w = at_e g v same here in
          ap k.told same ∙ k.met e x n.next.endpoint (idle x (sym a.gone ∙ ap (λ (s : Endpoint). s.gone) (sym is) ∙ meets.kept)) ∙ ap (λ (i : ℕ). tells_of (32 * i)) (sym a.queue ∙ ap (λ (s : Endpoint). s.queue) (sym is)))
          (λ (differs : g ≢ e). k.met g v (at_other g v differs here) (idle v meets.kept)) (cases_eq g e);
      opening = λ g v here kept opens. absurd (no_open v.queue (sym n.command ∙ sym a.command ∙ opens));
    }

    leaves_after : LeavesStreams d (served f e) hand parts e tells_of
    leaves_after = record {
      stands = alike_is_told f (served f e) hand parts tells_of (record { reports = refl; store = refl; endpoints = refl; transfers = refl; notes = refl })
          (λ v meets. record { linked = meets.linked; kept = meets.kept }) (λ v opens. opens) stands_after;
      beside = λ g differs.
          out_new d (served f e) g f.transfers n.command a.command (λ b. runs_noted d.notes f.notes y.place count a.moved b) refl ∙ a.out g differs ∙ sym (out_new d d g d.transfers n.command refl (λ b. refl) refl);
    }

  -- ---- one transfer is set

  set_then : (w : Endpoint) (ts : List Transfer) (i : ℕ) (one now : Transfer) → slice_get ts i ≡ Some one → IsThen w i now → ((u : ℕ) (z : Transfer) → u ≢ i → slice_get ts u ≡ Some z → IsThen w u z)
      → (u : ℕ) (z : Transfer) → slice_get (slice_set ts i now) u ≡ Some z → IsThen w u z
  set_then w ts i one now was it beside u z here =
      ⊎_elim (λ (same : (u ≡ i) × (z ≡ now)). subst (λ (j : ℕ). IsThen w j z) (sym same.0) (subst (IsThen w i) (sym same.1) it))
      (λ (other : (u ≢ i) × (slice_get ts u ≡ Some z)). beside u z other.0 other.1) (set_which ts i u one now z was here)

  unchanged : (w : Endpoint) (u : ℕ) (z : Transfer) → u ≢ t → slice_get d.transfers u ≡ Some z → IsThen w u z
  unchanged w u z differs here = record { one = z; here = here; first = refl; qtds = refl; most = refl; released = refl; endpoint = refl; how = inl (differs, refl) }

  -- ---- it doesn't end its transfer

  moved_after : IsAfter x (moved_on d t y count)
  moved_after = record {
    desc = refl;
    queue = refl;
    gone = refl;
    its = n.next.endpoint;
    others = λ g differs. refl;
    transfers = set_then x d.transfers t y (record y { place = (note_at d.notes y.place).next; left = y.left - 1 }) n.next.transfer
        (record { one = y; here = n.next.transfer; first = refl; qtds = refl; most = refl; released = refl; endpoint = refl; how = inr (own.0, inr (refl, n.next.next)) }) (unchanged x);
    moved = found_is_noted d.notes y.place (token_in m y.place).total;
    command = refl;
    tells = k.tells;
    out = λ g differs.
        out_beside (note_in d.notes) g t 0 d.transfers y (record y { place = (note_at d.notes y.place).next; left = y.left - 1 }) n.next.transfer (λ same. differs (sym same ∙ own.0)) (λ same. differs (sym same ∙ own.0));
  }

  -- ---- it ends its transfer

  abbrev notes_now : List QtdNote
  notes_now = noted d.notes y.place count

  abbrev told_now : List ℕ
  told_now = take y.most (moved_bytes notes_now m y.first y.qtds)

  abbrev line_of : What → Report
  line_of what = record { name = x.desc.name; what = what; from = length d.store; len = length told_now }

  -- what it leaves but for the endpoint
  record Ends (what : What) (w : Endpoint) (f : DriverContent) : Type 0 where
    reports : f.reports ≡ d.reports ++ line_of what ∷ []
    store : f.store ≡ d.store ++ told_now
    endpoints : f.endpoints ≡ slice_set d.endpoints e w
    transfers : f.transfers ≡ slice_set d.transfers t (record y { reported = true })
    notes : f.notes ≡ notes_now
    command : f.command ≡ d.command

  ended_after : (what : What) (w : Endpoint) (f : DriverContent) → Ends what w f → is_refusal what ≡ false → w.desc ≡ x.desc → w.queue ≡ x.queue → w.gone ≡ x.gone → IsAfter w f
  ended_after what w f r tells_it desc queue gone = record {
    desc = desc;
    queue = queue;
    gone = gone;
    its = ap (λ (xs : List Endpoint). slice_get xs e) r.endpoints ∙ set_here d.endpoints e x w n.next.endpoint;
    others = λ g differs. ap (λ (xs : List Endpoint). slice_get xs g) r.endpoints ∙ set_there d.endpoints e g w differs;
    transfers = λ u z here.
        set_then w d.transfers t y (record y { reported = true }) n.next.transfer
        (record { one = y; here = n.next.transfer; first = refl; qtds = refl; most = refl; released = refl; endpoint = refl; how = inr (own.0, inl refl) }) (unchanged w) u z
        (ap (λ (ts : List Transfer). slice_get ts u) (sym r.transfers) ∙ here);
    moved = subst (λ (ns : List QtdNote). NotesMoved (note_at d.notes) (note_at ns) y.place count) (sym r.notes) (found_is_noted d.notes y.place (token_in m y.place).total);
    command = r.command;
    tells = subst (λ (xs : List Endpoint). TellsEach f.reports f.store (named_in xs) k.held k.told) (sym r.endpoints)
        (subst (λ (ls : List Report). TellsEach ls f.store (named_in (slice_set d.endpoints e w)) k.held k.told) (sym r.reports)
        (subst (λ (bs : List ℕ). TellsEach (d.reports ++ line_of what ∷ []) bs (named_in (slice_set d.endpoints e w)) k.held k.told) (sym r.store)
        (requests_add_no_stream d.reports d.store told_now (named_in d.endpoints) (named_in (slice_set d.endpoints e w)) k.held k.told e (named_of x) (named_of w) (line_of what) (ap (option_map named_of) n.next.endpoint)
        (names_at d.endpoints e x w n.next.endpoint)
        (record { named = ap (λ z. z.name) desc; none = ap (λ z. has_stream z.kind) desc ∙ silent; line_named = refl; tells = tells_it; from = refl; long = refl }) k.tells)));
    out = λ g differs.
        ap (out_of (note_in d.notes) g None 0) r.transfers
        ∙ out_beside (note_in d.notes) g t 0 d.transfers y (record y { reported = true }) n.next.transfer (λ same. differs (sym same ∙ own.0)) (λ same. differs (sym same ∙ own.0));
  }

  -- one more that waits behind it
  behind_after : (w : Endpoint) (i : ℕ) (f : DriverContent) (s : Transfer) → slice_get f.transfers i ≡ Some s → waits_for e s ≡ true → IsAfter w f → IsAfter w (told_behind f x.desc.name i s)
  behind_after w i f s here waits a =
      let of_e : s.endpoint ≡ e = (waits_is e s waits).0 in
      let q : IsThen w i s = a.transfers i s here in
      record {
        desc = a.desc;
        queue = a.queue;
        gone = a.gone;
        its = a.its;
        others = a.others;
        transfers = set_then w f.transfers i s (record s { reported = true }) here
            (record { one = q.one; here = q.here; first = q.first; qtds = q.qtds; most = q.most; released = q.released; endpoint = q.endpoint; how = inr (sym q.endpoint ∙ of_e, inl refl) })
            (λ u z differs there. a.transfers u z there);
        moved = a.moved;
        command = a.command;
        tells = requests_add_no_stream f.reports f.store [] (named_in f.endpoints) (named_in f.endpoints) k.held k.told e (named_of w)
            (named_of w)
            (record { name = x.desc.name; what = lines.Halt causes.Stall; from = length f.store; len = 0 }) (ap (option_map named_of) a.its)
            (record { here = ap (option_map named_of) a.its; beside = λ g differs. refl })
            (record { named = refl; none = ap (λ z. has_stream z.kind) a.desc ∙ silent; line_named = ap (λ z. z.name) (sym a.desc); tells = refl; from = refl; long = refl }) a.tells;
        out = λ g differs.
            out_beside (note_in d.notes) g i 0 f.transfers s (record s { reported = true }) here (λ same. differs (sym same ∙ of_e)) (λ same. differs (sym same ∙ of_e)) ∙ a.out g differs;
      }

  -- ---- by what is found

  abbrev Leaves : Found → Type 0
  Leaves found = LeavesStreams d (served (harvested_as d m e t x y found) e) hand parts e tells_of

  active_row : Leaves founds.Active
  active_row = record {
    stands = alike_is_told d (served d e) hand parts tells_of (record { reports = refl; store = refl; endpoints = refl; transfers = refl; notes = refl })
        (λ v meets. record { linked = meets.linked; kept = meets.kept }) (λ v opens. opens) k;
    beside = λ g differs. refl;
  }

  moved_row : Leaves (founds.Moved count)
  moved_row = leaves_after x (moved_on d t y count) moved_after

  abbrev told_d : What → DriverContent
  told_d what = told_with d m t y what x.desc.name notes_now

  ended_by : (what : What) → is_refusal what ≡ false → (o : Option EndCause) (stall : Bool) → LeavesStreams d (served (after_end (told_d what) e t x stall o) e) hand parts e tells_of
  ended_by what tells_it (Some cause) stall =
      let w : Endpoint = record x { ended = Some cause } in
      let f : DriverContent = after_end (told_d what) e t x stall (Some cause) in
      leaves_after w f (ended_after what w f (record { reports = refl; store = refl; endpoints = refl; transfers = refl; notes = refl; command = refl }) tells_it refl refl refl)
  ended_by what tells_it None false =
      let w : Endpoint = record x { next = next_after (told_d what).transfers e t } in
      let f : DriverContent = goes_on (told_d what) e t x in
      leaves_after w f (ended_after what w f (record { reports = refl; store = refl; endpoints = refl; transfers = refl; notes = refl; command = refl }) tells_it refl refl refl)
  ended_by what tells_it None true =
      let w : Endpoint = record x { next = None } in
      let f : DriverContent = record (told_d what) {
        harvested = (told_d what).harvested ++ t ∷ [];
        endpoints = slice_set (told_d what).endpoints e w;
        mends = (told_d what).mends ++ mends_of x;
      } in
      leaves_after w (stalled (told_d what) e t x)
      (behind_keeps (IsAfter w) e x.desc.name (λ i g s here waits. behind_after w i g s here waits) (length (told_d what).transfers - suc t) (suc t) f
      (ended_after what w f (record { reports = refl; store = refl; endpoints = refl; transfers = refl; notes = refl; command = refl }) tells_it refl refl refl))

  ended_row : (what : What) → is_refusal what ≡ false → Leaves (founds.Ended count what)
  ended_row what tells_it = ended_by what tells_it (end_of x.desc.kind what) (is_stall what)

  halted_row : (missed babble none : Bool)
      → Leaves (founds.Ended count (if missed then lines.Miss else if babble then lines.Halt causes.Babble else if none then lines.Halt causes.Error else lines.Halt causes.Stall))
  halted_row true babble none = ended_row lines.Miss refl
  halted_row false true none = ended_row (lines.Halt causes.Babble) refl
  halted_row false false true = ended_row (lines.Halt causes.Error) refl
  halted_row false false false = ended_row (lines.Halt causes.Stall) refl

  done_row : (ends : Bool) → Leaves (done_of ends count)
  done_row true = ended_row lines.Done refl
  done_row false = moved_row

  found_row : (active halted : Bool) → Leaves (if active then founds.Active else if halted then founds.Ended count (halt_of (token_in m y.place)) else done_of (ends_by y.sort (nat_le y.left 1) (token_in m y.place).total) count)
  found_row true halted = active_row
  found_row false true = halted_row (token_in m y.place).missed (token_in m y.place).babble (nat_eq (token_in m y.place).cerr 0)
  found_row false false = done_row (ends_by y.sort (nat_le y.left 1) (token_in m y.place).total)

-- ---- the row

pub other_harvest_is_told : (p : Parts) (parts : StructureSets) (hand : Hand) (e t : ℕ) (found : Found) (tells_of : ℕ → List ℕ) → (due : IsHarvestDue p e t found) → HasOwners p.driver → AsynchronousTakesTurns p.driver
    → due.endpoint.desc.kind ≡ kinds.Control → ToldStands p.driver hand parts tells_of → LeavesStreams p.driver (after_driver_row (rows.Harvest e t found) p).driver hand parts e tells_of
other_harvest_is_told p parts hand e t found tells_of due owners turns control k =
    subst (λ (f : DriverContent). LeavesStreams p.driver f hand parts e tells_of) (sym (after_is p e t found due))
    (subst (λ (b : Bool). LeavesStreams p.driver (if b then served (harvested_as p.driver p.memory e t due.endpoint due.transfer found) e else p.driver) hand parts e tells_of) (sym due.waits)
    (subst (λ (z : Found). LeavesStreams p.driver (served (harvested_as p.driver p.memory e t due.endpoint due.transfer z) e) hand parts e tells_of)
    (sym (due.tells ∙ found_by p.driver p.memory due.transfer due.transfer.sort (its_sort p e t found due owners turns)))
    (found_row p.driver p.memory e t due.endpoint due.transfer (read_next p e t found due owners turns) hand parts (ap has_stream control) tells_of k
    (token_in p.memory due.transfer.place).active (token_in p.memory due.transfer.place).halted)))
