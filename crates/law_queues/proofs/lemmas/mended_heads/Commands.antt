-- An accepted command leaves what is owed: a request that is accepted meanwhile begins where the queue goes on.
use Rattle.std.proofs.Common.{◌≡◌, ℕ, zero, suc, Bool, true, false, not, ◌&&◌, cond, List, [], ◌∷◌, ◌++◌, length, drop, set, slice_get, Option, Some, None, Ok, ap, sym, subst, ◌∙◌, refl}
use Rattle.std.proofs.lemmas.Bool.{false≢true}
use Rattle.std.proofs.lemmas.Option.{same_Some}
use Rattle.law_common.proofs.Lists.{set_here, pushed_last}
use Rattle.usb_base.specs.declared.commands.Cmd.{Cmd}
use Rattle.usb_base.specs.declared.endpoints.EndCause.{EndCause}
use Rattle.usb_base.specs.declared.endpoints.EpDesc.{EpDesc}
use Rattle.usb_base.specs.declared.packets.EpKind.{EpKind}
use Rattle.usb_base.specs.declared.packets.EpKind.TheVariants as kinds
use Rattle.word_mem.specs.Memory.{Mem}
use Rattle.mem_runs.specs.Book.{Book}
use Rattle.drv_table.specs.declared.content.Endpoint.{Endpoint}
use Rattle.drv_table.specs.declared.content.Transfer.{Transfer}
use Rattle.drv_table.specs.declared.content.Slots.{Slots}
use Rattle.drv_table.specs.declared.content.Command.TheVariants as unfinished
use Rattle.drv_table.specs.DriverContent.{DriverContent}
use Rattle.drv_table.specs.Words.{is_control}
use Rattle.drv_table.specs.Kinds.{is_iso}
use Rattle.drv_table.specs.Releases.{ended_by_cancel, is_told}
use Rattle.drv_table.specs.Commands.{or_finished}
use Rattle.drv_table.specs.Accepting.{Offered, first_waiting}
use Rattle.drv_table.specs.Offers.{offered, with_queued, new_transfer}
use Rattle.drv_table.specs.IsoOffers.{Descriptors, slot_runs, one_descriptor, all_descriptors}
use Rattle.drv_table.specs.CancelOffers.{first_end, with_cancel}
use Rattle.law_driver.specs.endpoint_lives.Lives.{told_end}
use Rattle.law_driver.specs.run_owners.Accepts.{Accepts, opens, chains, places, transfers, describes, cancels, unchains}
use Rattle.law_driver.proofs.lemmas.run_owners.Commands.{each_command_has_its_reason}
use Rattle.law_queues.specs.mended_heads.Owed.{GoesOnAt}
use Rattle.law_queues.proofs.lemmas.mended_heads.Content.{KeepFirsts, firsts_same, firsts_both, firsts_pushed, goes_on_still, IsOwedStill, KeepOwed, owed_set, owed_pushed, OwesAlike, alike_both, or_done}

-- of control endpoints
abbrev pub is_one : ℕ → Endpoint → Type 0
is_one e x = is_control x.desc.kind ≡ true

-- ---- an endpoint more

opened_alike : (d f : DriverContent) (y : Endpoint) → f.mends ≡ d.mends → f.endpoints ≡ d.endpoints ++ y ∷ [] → f.transfers ≡ d.transfers → OwesAlike is_one d f
opened_alike d f y mends ends same = record {
  mends = mends;
  owed = subst (λ (ys : List Endpoint). KeepOwed is_one d.endpoints d.transfers ys f.transfers) (sym ends)
      (subst (λ (us : List Transfer). KeepOwed is_one d.endpoints d.transfers (d.endpoints ++ y ∷ []) us) (sym same) (owed_pushed is_one d.endpoints d.transfers y));
}

-- ---- a transfer more

-- it begins at the old end of the queue, and is next where none was
queued_onward : (ts : List Transfer) (x : Endpoint) (y : Transfer) (dummy b : ℕ) (next : Option ℕ) → y.first ≡ x.dummy → GoesOnAt ts x.dummy next b → GoesOnAt (ts ++ y ∷ []) dummy (first_waiting next (length ts)) b
queued_onward ts x y dummy b None first is = record { transfer = y; here = pushed_last ts y; first = is ∙ sym first }
queued_onward ts x y dummy b (Some t) first is = goes_on_still ts (ts ++ y ∷ []) x.dummy b (Some t) (firsts_pushed ts y) is

queued_still : (d : DriverContent) (e : ℕ) (x z : Endpoint) (y : Transfer) (dummy : ℕ) → slice_get d.endpoints e ≡ Some x → slice_get d.endpoints e ≡ Some z → y.first ≡ x.dummy
    → IsOwedStill d.transfers (set d.endpoints e (with_queued x dummy (length d.transfers))) (d.transfers ++ y ∷ []) e z
queued_still d e x z y dummy here there first =
    let now = with_queued x dummy (length d.transfers) in
    subst (IsOwedStill d.transfers (set d.endpoints e now) (d.transfers ++ y ∷ []) e) (same_Some x z (sym here ∙ there))
    (record {
      endpoint = now;
      here = set_here d.endpoints e x now here;
      desc = refl;
      gone = refl;
      going = λ kept goes. goes;
      queue = refl;
      onward = λ b is. queued_onward d.transfers x y dummy b x.next first is;
    })

asked_alike : (d f : DriverContent) (e : ℕ) (x : Endpoint) (y : Transfer) (dummy : ℕ) → slice_get d.endpoints e ≡ Some x → y.first ≡ x.dummy → f.mends ≡ d.mends
    → f.endpoints ≡ set d.endpoints e (with_queued x dummy (length d.transfers)) → f.transfers ≡ d.transfers ++ y ∷ [] → OwesAlike is_one d f
asked_alike d f e x y dummy here first mends ends more =
    let now = with_queued x dummy (length d.transfers) in
    record {
      mends = mends;
      owed = subst (λ (ys : List Endpoint). KeepOwed is_one d.endpoints d.transfers ys f.transfers) (sym ends)
          (subst (λ (us : List Transfer). KeepOwed is_one d.endpoints d.transfers (set d.endpoints e now) us) (sym more)
          (owed_set is_one d.endpoints d.transfers (d.transfers ++ y ∷ []) e now (firsts_pushed d.transfers y) (λ z p there. queued_still d e x z y dummy here there first)));
    }

-- ---- descriptors more, of an endpoint that is no control endpoint

described_firsts : (k : Book) (e : ℕ) (x : EpDesc) (s : Slots) (n seed : ℕ) (runs : List ℕ) (a : Descriptors) → KeepFirsts a.transfers (all_descriptors k e x s n seed runs a).transfers
unfolding all_descriptors
described_firsts k e x s zero seed runs a = firsts_same a.transfers
described_firsts k e x s (suc n) seed runs a =
    let b = one_descriptor k e x s seed runs a in
    firsts_both a.transfers b.transfers _ (firsts_pushed a.transfers _) (described_firsts k e x s n _ (drop (suc (slot_runs s)) runs) b)

iso_or_control : (kind : EpKind) → is_iso kind ≡ true → is_control kind ≡ true → ⊥
iso_or_control kinds.Iso iso control = false≢true control
iso_or_control _ iso control = false≢true iso

described_alike : (d f : DriverContent) (e : ℕ) (x y : Endpoint) → slice_get d.endpoints e ≡ Some x → is_iso x.desc.kind ≡ true → f.mends ≡ d.mends → f.endpoints ≡ set d.endpoints e y → KeepFirsts d.transfers f.transfers → OwesAlike is_one d f
described_alike d f e x y here iso mends ends firsts = record {
  mends = mends;
  owed = subst (λ (ys : List Endpoint). KeepOwed is_one d.endpoints d.transfers ys f.transfers) (sym ends)
      (owed_set is_one d.endpoints d.transfers f.transfers e y firsts
      (λ z control there. absurd (iso_or_control x.desc.kind iso (ap (λ (r : Endpoint). is_control r.desc.kind) (same_Some x z (sym here ∙ there)) ∙ control))));
}

-- ---- a cancel

told_of : (x : Endpoint) (b : Bool) → is_told x ≡ b → told_end x ≡ cond b None x.ended
told_of x b is = ap (λ (c : Bool). cond c None x.ended) is

cancelled_told : (x : Endpoint) → x.gone ≡ false → x.ended ≡ None → is_told (record x { cancelled = true; ended = first_end x.ended }) ≡ true
cancelled_told x kept none = ap (λ (o : Option EndCause). ended_by_cancel (first_end o) && true && not x.gone) none ∙ ap not kept

-- it had not ended, as far as its report has it
had_none : (x : Endpoint) (c : Option EndCause) (b : Bool) → b ≡ false → cond b None c ≡ None → c ≡ None
had_none x c true off is = absurd (false≢true (sym off))
had_none x c false off is = is

untold : (x : Endpoint) → x.cancelled ≡ false → is_told x ≡ false
untold x fresh = ap (λ (b : Bool). ended_by_cancel x.ended && b && not x.gone) fresh ∙ by (ended_by_cancel x.ended)
  where
    by : (b : Bool) → (b && false && not x.gone) ≡ false
    by true = refl
    by false = refl

cancelled_end : (x : Endpoint) → x.cancelled ≡ false → x.gone ≡ false → told_end x ≡ None → told_end (record x { cancelled = true; ended = first_end x.ended }) ≡ None
cancelled_end x fresh kept goes =
    let y : Endpoint = record x { cancelled = true; ended = first_end x.ended } in
    told_of y true (cancelled_told x kept (had_none x x.ended (is_told x) (untold x fresh) goes))

cancelled_alike : (d f : DriverContent) (e : ℕ) (x : Endpoint) → slice_get d.endpoints e ≡ Some x → x.cancelled ≡ false → f.mends ≡ d.mends
    → f.endpoints ≡ set d.endpoints e (record x { cancelled = true; ended = first_end x.ended }) → f.transfers ≡ d.transfers → OwesAlike is_one d f
cancelled_alike d f e x here fresh mends ends same =
    let now : Endpoint = record x { cancelled = true; ended = first_end x.ended } in
    record {
      mends = mends;
      owed = subst (λ (ys : List Endpoint). KeepOwed is_one d.endpoints d.transfers ys f.transfers) (sym ends)
          (subst (λ (us : List Transfer). KeepOwed is_one d.endpoints d.transfers (set d.endpoints e now) us) (sym same)
          (owed_set is_one d.endpoints d.transfers d.transfers e now (firsts_same d.transfers)
          (λ z control there.
          subst (IsOwedStill d.transfers (set d.endpoints e now) d.transfers e) (same_Some x z (sym here ∙ there))
          (record {
            endpoint = now;
            here = set_here d.endpoints e x now here;
            desc = refl;
            gone = refl;
            going = λ kept goes. cancelled_end x fresh kept goes;
            queue = refl;
            onward = λ b is. is;
          }))));
    }

-- ---- each of them

as_offered : (d : DriverContent) (o p : Offered) → o ≡ p → OwesAlike is_one d p.driver → OwesAlike is_one d o.driver
as_offered d o p is alike = subst (λ (q : Offered). OwesAlike is_one d q.driver) (sym is) alike

pub accepted_alike : (d : DriverContent) (m : Mem) (o : Offered) → Accepts d m o → OwesAlike is_one d o.driver
accepted_alike d m o (opens w) = as_offered d o _ w.is (opened_alike d _ _ refl refl refl)
accepted_alike d m o (chains w) = as_offered d o _ w.is (opened_alike d _ _ refl refl refl)
accepted_alike d m o (places w) = as_offered d o _ w.is (opened_alike d _ _ refl refl refl)
accepted_alike d m o (transfers w) = as_offered d o _ w.is (asked_alike d _ w.number w.endpoint (new_transfer w.number w.asked w.endpoint.dummy) _ w.here refl refl refl refl)
accepted_alike d m o (describes w) =
    as_offered d o _ w.is
    (described_alike d _ w.number w.endpoint _ w.here w.isochronous refl refl
    (described_firsts w.holding_after.book w.number w.endpoint.desc w.slots w.count w.seed _ (record { notes = d.periodic.notes; transfers = d.transfers; memory = w.holding_after.memory })))
accepted_alike d m o (cancels w) = as_offered d o _ w.is (cancelled_alike d _ w.number w.endpoint w.here w.fresh refl refl refl)
accepted_alike d m o (unchains w) =
    let f = with_cancel d w.number w.endpoint _ in
    as_offered d o _ w.is (alike_both is_one d f (or_finished f (unfinished.Unchain w.number)) (cancelled_alike d f w.number w.endpoint w.here w.fresh refl refl refl) (or_done f (unfinished.Unchain w.number)))

pub command_alike : (d : DriverContent) (m : Mem) (cmd : Cmd) (o : Offered) → offered d m cmd ≡ Ok o → OwesAlike is_one d o.driver
command_alike d m cmd o is = accepted_alike d m o (each_command_has_its_reason d m cmd o is)
