-- What is told of queues stays, where endpoints that were given back, and transfers that were given back, come to a content.
use Rattle.std.proofs.Common.{◌≡◌, ℕ, zero, suc, ◌*◌, ◌<◌, ◌&&◌, Bool, true, false, if◌then◌else◌, List, [], ◌∷◌, ◌++◌, length, get_or, slice_get, Option, Some, None, ap, refl, sym, subst, ◌∙◌, ⊎_elim, inl, inr, arith}
use Rattle.std.specs.List.{AllByRecursion}
use Rattle.std.proofs.lemmas.Bool.{true≢false}
use Rattle.std.proofs.lemmas.Option.{same_Some, slice_get-get_or}
use Rattle.law_queues.proofs.Common.{if_zero, none_unpublished}
use Rattle.law_world.proofs.Common.{one_out, none_some}
use Rattle.law_common.proofs.Lists.{nth_all}
use Rattle.mem_runs.specs.Book.{Book, slot_of}
use Rattle.drv_table.specs.declared.content.Reserve.{Reserve}
use Rattle.drv_table.specs.declared.content.Endpoint.{Endpoint}
use Rattle.drv_table.specs.declared.content.Transfer.{Transfer}
use Rattle.drv_table.specs.declared.content.Command.{Command}
use Rattle.drv_table.specs.declared.content.Command.TheVariants as unfinished
use Rattle.drv_table.specs.DriverContent.{DriverContent}
use Rattle.drv_table.specs.Words.{head_block}
use Rattle.claims_driver.specs.Owners.{NoteRuns, note_in}
use Rattle.law_driver_ring.specs.Inventory.{IsLent}
use Rattle.law_structures.specs.lent_structures.Structures.{StructureSets}
use Rattle.law_ring.specs.Told.{Endpoint as Told}
use Rattle.law_driver.specs.chained_transfers.Out.{unpublished, out_of_transfer, if_last, out_of}
use Rattle.law_queues.specs.leaving_drivers.Before.{UnlinksAtMost}
use Rattle.law_driver_ring.specs.fed_queues.Places.{IsThere, IsMet, HasHead}
use Rattle.law_queues.specs.fed_lends.Commands.{QueuesStand}
use Rattle.law_queues.proofs.lemmas.fed_lends.Asked.{out_idle}
use Rattle.law_queues.specs.standing_fronts.Tails.{TailsStand}
use Rattle.law_queues.proofs.lemmas.commanded_queues.Tails.{reaches_alike}
use Rattle.law_queues.proofs.lemmas.mended_heads.Content.{any_one, KeepFirsts, KeepOwed, same_still, owed_on}
use Rattle.law_queues.proofs.lemmas.mended_heads.Standing.{stand_on, keeps_same}
use Rattle.law_world.specs.steps.control_queues.Controls.{ControlsStand}
use Rattle.law_world.proofs.lemmas.steps.lemmas.control_queues.Alike.{ThereAlike, stand_still}
use Rattle.law_world.specs.memory.Mixed.{QueuesGoOn}
use Rattle.law_world.proofs.lemmas.memory.CommandBeside.{sound_by}
use Rattle.law_world.proofs.lemmas.memory.CommandTails.{idle_ends, ends_idle}

module _ (d : DriverContent) (book : Book) (es : List Endpoint) (ts : List Transfer) (made : ℕ) (room : Reserve) where
  abbrev f : DriverContent
  f = record d { book = book; endpoints = es; transfers = ts; made = made; room = room }

  pub record IsWider : Type 0 where
    pub idle : d.command ≡ None
    pub ends : (i : ℕ) (z : Endpoint) → slice_get es i ≡ Some z → z.gone ≡ false → slice_get d.endpoints i ≡ Some z
    pub ends_now : (i : ℕ) (z : Endpoint) → slice_get d.endpoints i ≡ Some z → slice_get es i ≡ Some z
    pub moves : (t : ℕ) (y : Transfer) → slice_get ts t ≡ Some y → y.released ≡ false → slice_get d.transfers t ≡ Some y
    pub moves_now : (t : ℕ) (y : Transfer) → slice_get d.transfers t ≡ Some y → slice_get ts t ≡ Some y
    pub lent : (i : ℕ) (z : Endpoint) → slice_get d.endpoints i ≡ Some z → z.gone ≡ false → IsLent (slot_of d.book.slots z.dummy)
    pub within : (t : ℕ) (y : Transfer) → slice_get d.transfers t ≡ Some y → y.endpoint < length d.endpoints
    pub outs : (e : ℕ) → out_of (note_in d.notes) e None 0 ts ≡ out_of (note_in d.notes) e None 0 d.transfers

  module _ (k : IsWider) where
    there_was : (z : Endpoint) → IsThere f z → IsThere d z
    there_was z t = record { linked = t.linked; kept = t.kept }

    met_was : (i : ℕ) (z : Endpoint) → IsMet f i z → IsMet d i z
    met_was i z m = record { there = there_was z m.there; near = m.near }

    head_now : (n : ℕ) → HasHead d n → HasHead f n
    head_now n h = record {
      number = h.number;
      endpoint = h.endpoint;
      here = k.ends_now h.number h.endpoint h.here;
      met = record { there = record { linked = h.met.there.linked; kept = h.met.there.kept }; near = h.met.near };
      at = h.at;
    }

    -- the endpoint of a transfer is one that was there
    holder : (t : ℕ) (y : Transfer) (x : Endpoint) → slice_get d.transfers t ≡ Some y → slice_get es y.endpoint ≡ Some x → slice_get d.endpoints y.endpoint ≡ Some x
    holder t y x there here =
        let z = get_or d.endpoints y.endpoint x in
        let at : slice_get d.endpoints y.endpoint ≡ Some z = slice_get-get_or d.endpoints y.endpoint x (k.within t y there) in
        at ∙ ap Some (same_Some z x (sym (k.ends_now y.endpoint z at) ∙ here))

    no_publish : (b : ℕ) (words : List ℕ) → d.command ≡ Some (unfinished.Publish b words) → ⊥
    no_publish b words is = none_some (unfinished.Publish b words) (sym k.idle ∙ is)

    no_unpublished : (m n : ℕ) → unpublished d.command m n ≡ 0
    no_unpublished m n = ap (λ (c : Option Command). unpublished c m n) k.idle

    alike : ThereAlike d f
    alike i x here there = let t = there_was x there in record { endpoint = x; here = k.ends i x here there.kept; there = t; queue = refl; met = λ m. record { there = t; near = m.near } }

    module _ (near streams : ℕ → Bool) (ends : ℕ → Told) (parts : StructureSets) (order : ℕ → ℕ → ℕ) (out : ℕ → List ℕ) where
      stand : QueuesStand d near streams ends parts order out → QueuesStand f near streams ends parts order out
      stand old = record {
        met = record {
          head = old.met.head;
          each = λ i z here m. old.met.each i z (k.ends i z here m.there.kept) (met_was i z m);
          only = λ n on. ⊎_elim (λ (head : n ≡ 32 * head_block). inl head) (λ (h : HasHead d n). inr (head_now n h)) (old.met.only n on);
        };
        streams_are = record {
          each = λ i z here m. old.streams_are.each i z (k.ends i z here m.there.kept) (met_was i z m);
          only = λ n on. head_now n (old.streams_are.only n on);
        };
        fed = record {
          dummies = λ i z here kept lent. let was = k.ends i z here kept in old.fed.dummies i z was kept (k.lent i z was kept);
          pieces = λ t i y x there held here from below.
              let was = k.moves t y there held in
              let none = none_unpublished d t y k.idle in
              old.fed.pieces t i y x was held (holder t y x was here) (omega (arith, none)) below;
          publishes = λ b words is. absurd (no_publish b words is);
        };
        last = record {
          dummies = λ i z here kept lent. let was = k.ends i z here kept in old.last.dummies i z was kept (k.lent i z was kept);
          taken = λ b words t y z is. absurd (no_publish b words is);
          sorted = λ b words t y z is. absurd (no_publish b words is);
        };
        out_are = λ i z here there.
            old.out_are i z (k.ends i z here there.kept) (there_was z there)
            ∙ out_idle (note_in d.notes) i d.command d.made d.transfers no_unpublished
            ∙ sym (k.outs i)
            ∙ sym (out_idle (note_in d.notes) i d.command made ts no_unpublished);
      }

      tails : TailsStand d parts order out → TailsStand f parts order out
      tails old =
          ends_idle f parts order out (subst UnlinksAtMost (sym k.idle) tt)
          (λ e z here met.
          reaches_alike d f parts order out e (32 * z.dummy) z z refl refl
          (λ h u y at there held. record { transfer = y; here = k.moves u y there held; endpoint = refl; released = refl; qtds = refl; left = refl; places = λ j most. refl })
          (idle_ends d parts order out k.idle old e z (k.ends e z here met.there.kept) (met_was e z met)))

      controls : ControlsStand d parts order out → ControlsStand f parts order out
      controls old =
          let firsts : KeepFirsts d.transfers ts = λ t y here. record { transfer = y; here = k.moves_now t y here; first = refl } in
          let owes : KeepOwed any_one d.endpoints d.transfers es ts = λ e x p here. same_still d.transfers ts es e x firsts (k.ends_now e x here) in
          stand_still d f parts order out alike
          (stand_on d f parts parts out out refl (λ s owed. owed_on any_one d f s owes owed tt) (λ s owed. keeps_same parts out (32 * s.queue)) old.mends) old

      pub wider_goes_on : QueuesGoOn d near streams ends parts order out → QueuesGoOn f near streams ends parts order out
      wider_goes_on old = record { queues = stand old.queues; sound = sound_by d f parts alike old.sound; tails = tails old.tails; controls = controls old.controls }

-- ---- transfers that were given back, behind the others

abbrev pub AreReleased : List Transfer → Type 0
AreReleased ys = AllByRecursion (λ y. y.released ≡ true) ys

pub held_before : (ts ys : List Transfer) → AreReleased ys → (t : ℕ) (y : Transfer) → slice_get (ts ++ ys) t ≡ Some y → y.released ≡ false → slice_get ts t ≡ Some y
held_before [] ys all t y there held = absurd (true≢false (sym (nth_all (λ (z : Transfer). z.released ≡ true) ys t y all there) ∙ held))
held_before (x ∷ xs) ys all zero y there held = there
held_before (x ∷ xs) ys all (suc t) y there held = held_before xs ys all t y there held

either_none : (b : Bool) (xs : List ℕ) → (if b && false then xs else []) ≡ []
either_none true xs = refl
either_none false xs = refl

none_out : (note : ℕ → NoteRuns) (e : ℕ) (ys : List Transfer) → AreReleased ys → out_of note e None 0 ys ≡ []
none_out note e [] all = refl
none_out note e (y ∷ ys) all = ap (λ (xs : List ℕ). xs ++ out_of note e None 0 ys) (one_out note e (if_last ys 0) y all.0) ∙ none_out note e ys all.1

pub same_out : (note : ℕ → NoteRuns) (e : ℕ) (ts ys : List Transfer) → AreReleased ys → out_of note e None 0 (ts ++ ys) ≡ out_of note e None 0 ts
same_out note e [] ys all = none_out note e ys all
same_out note e (x ∷ xs) ys all =
    ap (λ (n : ℕ). out_of_transfer note e n x ++ out_of note e None 0 (xs ++ ys)) (if_zero (xs ++ ys) ∙ sym (if_zero xs))
    ∙ ap (λ (zs : List ℕ). out_of_transfer note e (if_last xs 0) x ++ zs) (same_out note e xs ys all)
