-- Each call on a translator, and its work, key by key.
use Rattle.std.specs.Prelude.{nat_le}
use Rattle.std.proofs.Common.{◌≡◌, ◌∷◌, ℕ, inl, inr, Bool, true, false, List, [], Option, Some, if◌then◌else◌, refl, sym, subst, ap, ◌∙◌}
use Rattle.std.specs.List.{find}
use Rattle.usb_base.specs.declared.packets.Ask.{Ask}
use Rattle.usb_base.specs.declared.packets.EpKind.{EpKind}
use Rattle.usb_base.specs.declared.packets.EpKind.TheVariants.{Control, Iso, Bulk, Interrupt}
use Rattle.usb_base.specs.declared.packets.Reply.{Reply}
use Rattle.usb_base.specs.declared.packets.Reply.TheVariants.{Silent}
use Rattle.hub_keys.specs.Keys.{key_of, is_same_key, is_same_kind}
use Rattle.hub_keys.specs.declared.key.Key.{Key}
use Rattle.tt_bulk.specs.Answers.{reply_of}
use Rattle.tt_bulk.specs.Contents.{Taken, BufferContent, Free, Pending, Ready, Old, TwoBuffers}
use Rattle.tt_bulk.specs.Rows as Buffers
use Rattle.tt_bulk.specs.Rows.{is_cleared_by}
use Rattle.tt_pipeline.specs.declared.entry.Entry.{Entry}
use Rattle.tt_pipeline.specs.declared.entry.Exchange.{Exchange}
use Rattle.tt_pipeline.specs.declared.entry.Exchange.TheVariants.{Ahead, Made}
use Rattle.tt_pipeline.specs.Work.{called_for}
use Rattle.tt_pipeline.proofs.Places.{on_or_off}
use Rattle.tt_pipeline.specs.Answers as Pipelines
use Rattle.tt_pipeline.specs.Starting.{has_key, is_there}
use Rattle.tt_pipeline.specs.Starting as PipelineStarts
use Rattle.multi_tt.specs.Translators.{Translator, opening}
use Rattle.multi_tt.specs.Single.{is_buffered, started, started_by, start_answer, start_answer_by, completed, completed_by, complete_answer, complete_answer_by, cleared, room_left}
use Rattle.law_translated.specs.Lift.{Way, Buffered, Piped, Empty, Asked, Hidden, There, Told, told}
use Rattle.law_translated.specs.KeySlots.{slot_in, either_slot, shown, exchange_slot, AreEntries, KeySlot, way_of, slot_of, IsOnce, slot_if, slot_at, HasSlot}
use Rattle.law_translated.specs.KeySteps.{OwnStart, OtherStart, given_reply, TurnsOfKey}
use Rattle.law_translated.specs.KeySteps.OtherStart.{stays}
use Rattle.law_translated.specs.KeySteps.Showing.{stays as as_made}
use Rattle.law_translated.specs.KeyLaws.{IsAskedFor, AskedByKey, Has, start_of, StartsOwn, StartsOther, StartByKey, CompletesOwn, CompleteByKey, ClearByKey, ResetByKey, WorkByKey}
use Rattle.law_translated.proofs.Keys.{same_key}
use Rattle.law_translated.proofs.BufferStarts as FirstHalf
use Rattle.law_translated.proofs.BufferCompletes as Completing
use Rattle.law_translated.proofs.BufferWork as Working
use Rattle.law_translated.proofs.PipelineCalls as Entering
use Rattle.law_translated.proofs.PipelineWork as Piping

-- ---- which half a kind goes into

buffered_way : (kind : EpKind) → way_of kind ≡ Some Buffered → is_buffered kind ≡ true
buffered_way Bulk h = refl
buffered_way Control h = refl
buffered_way Interrupt h = absurd cc
buffered_way Iso h = absurd cc

piped_way : (kind : EpKind) → way_of kind ≡ Some Piped → kind ≡ Interrupt
piped_way Bulk h = absurd cc
piped_way Control h = absurd cc
piped_way Interrupt h = refl
piped_way Iso h = absurd cc

piped_half : (kind : EpKind) → way_of kind ≡ Some Piped → is_buffered kind ≡ false
piped_half kind h = ap is_buffered (piped_way kind h)

-- kinds of different halves are different
apart_kinds : (a b : EpKind) → is_buffered a ≡ true → is_buffered b ≡ false → is_same_kind a b ≡ false
apart_kinds Bulk Bulk h g = absurd cc
apart_kinds Bulk Control h g = absurd cc
apart_kinds Bulk Interrupt h g = refl
apart_kinds Bulk Iso h g = refl
apart_kinds Control Bulk h g = absurd cc
apart_kinds Control Control h g = absurd cc
apart_kinds Control Interrupt h g = refl
apart_kinds Control Iso h g = refl
apart_kinds Interrupt b h g = absurd cc
apart_kinds Iso b h g = absurd cc

-- ---- a slot that both notes leave as it is

buffer_slot : (k : Key) (t : Translator) (s : KeySlot) → slot_of k t.bulk ≡ s → HasSlot Buffered k t s
buffer_slot k t s h = record { is_told = false; packet = []; is = h }

-- the pipeline of a key of the buffers, and the buffers of a key of the pipeline, after a call on that half
other_entries : (k : Key) (old new : Translator) (s : KeySlot) → new.bulk ≡ old.bulk → Entering.IsLeft k old.pipeline new.pipeline
    → Has Buffered k old s → Has Buffered k new s
other_entries k old new s same l h = record {
  slot = buffer_slot k new s (ap (slot_of k) same ∙ h.slot.is);
  keyed = record {
    once = subst (λ (b : TwoBuffers). IsOnce k b) (sym same) h.keyed.once;
    entries = l.entries h.keyed.entries;
    none = l.there ∙ h.keyed.none;
  };
}

-- ---- a start

start_own : (way : Way) (ask : Ask) (bytes : List ℕ) (stuff : ℕ) (t : Translator) (s : KeySlot) → way_of ask.kind ≡ Some way
    → Has way (key_of ask) t s
    → StartsOwn way ask bytes stuff t s
start_own Buffered ask bytes stuff t s kind h =
    let half : is_buffered ask.kind ≡ true = buffered_way ask.kind kind in
    let is : started ask bytes stuff t ≡ record t { bulk = Buffers.started ask bytes stuff t.bulk } =
    ap (λ (b : Bool). started_by b ask bytes stuff t) half in
    let says : start_answer ask t ≡ Buffers.start_answer ask t.bulk = ap (λ (b : Bool). start_answer_by b ask t) half in
    let k : Key = key_of ask in
    let r = FirstHalf.own_start ask bytes stuff t.bulk h.keyed.once in
    let new : KeySlot = slot_of k (Buffers.started ask bytes stuff t.bulk) in
    let step : OwnStart Buffered (start_of ask bytes stuff) s (start_answer ask t) new =
    subst (λ (x : Reply). OwnStart Buffered (start_of ask bytes stuff) s x new) (sym says)
    (subst (λ (x : KeySlot). OwnStart Buffered (start_of ask bytes stuff) x (Buffers.start_answer ask t.bulk) new) h.slot.is r.0) in
    let has : Has Buffered k (record t { bulk = Buffers.started ask bytes stuff t.bulk }) new = record {
      slot = buffer_slot k (record t { bulk = Buffers.started ask bytes stuff t.bulk }) new refl;
      keyed = record { once = r.1; entries = h.keyed.entries; none = h.keyed.none };
    } in
    record { slot = new; has = subst (λ (x : Translator). Has Buffered k x new) (sym is) has; step = step }
start_own Piped ask bytes stuff t s kind h =
    let half : is_buffered ask.kind ≡ false = piped_half ask.kind kind in
    let is : started ask bytes stuff t ≡ record t { pipeline = PipelineStarts.started ask bytes stuff t.pipeline } =
    ap (λ (b : Bool). started_by b ask bytes stuff t) half in
    let says : start_answer ask t ≡ Silent = ap (λ (b : Bool). start_answer_by b ask t) half in
    let k : Key = key_of ask in
    let r = Entering.own_start ask bytes stuff t.pipeline h.slot.is_told h.slot.packet
    (piped_way ask.kind kind) h.keyed.once h.keyed.entries in
    let step : OwnStart Piped (start_of ask bytes stuff) s (start_answer ask t) r.slot =
    subst (λ (x : Reply). OwnStart Piped (start_of ask bytes stuff) s x r.slot) (sym says)
    (subst (λ (x : KeySlot). OwnStart Piped (start_of ask bytes stuff) x Silent r.slot) h.slot.is r.start) in
    let has : Has Piped k (record t { pipeline = PipelineStarts.started ask bytes stuff t.pipeline }) r.slot = record {
      slot = record { is_told = h.slot.is_told; packet = h.slot.packet; is = r.has h.slot.is_told h.slot.packet };
      keyed = record { once = r.once; entries = r.entries; first = h.keyed.first; second = h.keyed.second };
    } in
    record { slot = r.slot; has = subst (λ (x : Translator). Has Piped k x r.slot) (sym is) has; step = step }

-- .. where its own pipeline is left
left_piped : (k : Key) (t : Translator) (es : List Entry) (s : KeySlot) → Entering.IsLeft k t.pipeline es → Has Piped k t s
    → Has Piped k (record t { pipeline = es }) s
left_piped k t es s l h = record {
  slot = record {
    is_told = h.slot.is_told;
    packet = h.slot.packet;
    is = ap (λ (o : Option Entry). slot_if h.slot.is_told h.slot.packet o) l.same ∙ h.slot.is;
  };
  keyed = record { once = l.once h.keyed.once; entries = l.entries h.keyed.entries; first = h.keyed.first; second = h.keyed.second };
}

by_half : {P : Type 0} (b : Bool) → (b ≡ true → P) → (b ≡ false → P) → P
by_half true f g = f refl
by_half false f g = g refl

start_other : (way : Way) (k : Key) (ask : Ask) (bytes : List ℕ) (stuff : ℕ) (t : Translator) (s : KeySlot)
    → is_same_key (key_of ask) k ≡ false
    → Has way k t s → StartsOther way k ask bytes stuff t s
start_other Buffered k ask bytes stuff t s apart h =
    by_half (is_buffered ask.kind)
    (λ half.
    let is : started ask bytes stuff t ≡ record t { bulk = Buffers.started ask bytes stuff t.bulk } =
    ap (λ (b : Bool). started_by b ask bytes stuff t) half in
    let r = FirstHalf.other_start k ask bytes stuff t.bulk apart h.keyed.once in
    let new : KeySlot = slot_of k (Buffers.started ask bytes stuff t.bulk) in
    let has : Has Buffered k (record t { bulk = Buffers.started ask bytes stuff t.bulk }) new = record {
      slot = buffer_slot k (record t { bulk = Buffers.started ask bytes stuff t.bulk }) new refl;
      keyed = record { once = r.1; entries = h.keyed.entries; none = h.keyed.none };
    } in
    record {
      slot = new;
      has = subst (λ (x : Translator). Has Buffered k x new) (sym is) has;
      step = subst (λ (x : KeySlot). OtherStart Buffered x new) h.slot.is r.0;
    })
    (λ half.
    let is : started ask bytes stuff t ≡ record t { pipeline = PipelineStarts.started ask bytes stuff t.pipeline } =
    ap (λ (b : Bool). started_by b ask bytes stuff t) half in
    let l = Entering.other_start k ask bytes stuff t.pipeline apart in
    let has : Has Buffered k (record t { pipeline = PipelineStarts.started ask bytes stuff t.pipeline }) s =
    other_entries k t (record t { pipeline = PipelineStarts.started ask bytes stuff t.pipeline }) s refl l h in
    record { slot = s; has = subst (λ (x : Translator). Has Buffered k x s) (sym is) has; step = stays })
start_other Piped k ask bytes stuff t s apart h =
    by_half (is_buffered ask.kind)
    (λ half.
    let is : started ask bytes stuff t ≡ record t { bulk = Buffers.started ask bytes stuff t.bulk } =
    ap (λ (b : Bool). started_by b ask bytes stuff t) half in
    let n = FirstHalf.neither_start k ask bytes stuff t.bulk apart (record { first = h.keyed.first; second = h.keyed.second }) in
    let has : Has Piped k (record t { bulk = Buffers.started ask bytes stuff t.bulk }) s = record {
      slot = record { is_told = h.slot.is_told; packet = h.slot.packet; is = h.slot.is };
      keyed = record { once = h.keyed.once; entries = h.keyed.entries; first = n.first; second = n.second };
    } in
    record { slot = s; has = subst (λ (x : Translator). Has Piped k x s) (sym is) has; step = stays })
    (λ half.
    let is : started ask bytes stuff t ≡ record t { pipeline = PipelineStarts.started ask bytes stuff t.pipeline } =
    ap (λ (b : Bool). started_by b ask bytes stuff t) half in
    let l = Entering.other_start k ask bytes stuff t.pipeline apart in
    record {
      slot = s;
      has =
          subst (λ (x : Translator). Has Piped k x s) (sym is)
          (left_piped k t (PipelineStarts.started ask bytes stuff t.pipeline) s l h);
      step = stays;
    })

pub start_by_key : StartByKey
start_by_key = record {
  own = start_own;
  other = λ way k ask bytes stuff t s kind apart h. start_other way k ask bytes stuff t s apart h;
}

-- ---- a complete-split

complete_own : (way : Way) (ask : Ask) (t : Translator) (s : KeySlot) → way_of ask.kind ≡ Some way → Has way (key_of ask) t s
    → CompletesOwn way ask t s
complete_own Buffered ask t s kind h =
    let half : is_buffered ask.kind ≡ true = buffered_way ask.kind kind in
    let k : Key = key_of ask in
    let is : completed ask t ≡ record t { bulk = Buffers.completed k t.bulk } = ap (λ (b : Bool). completed_by b ask t) half in
    let says : complete_answer ask t ≡ Buffers.complete_answer k t.bulk = ap (λ (b : Bool). complete_answer_by b ask t) half in
    let r = Completing.own_complete k t.bulk h.keyed.once in
    let has : Has Buffered k (record t { bulk = Buffers.completed k t.bulk }) (told s) = record {
      slot = buffer_slot k (record t { bulk = Buffers.completed k t.bulk }) (told s) (r.after ∙ ap (λ (x : KeySlot). told x) h.slot.is);
      keyed = record { once = r.once; entries = h.keyed.entries; none = h.keyed.none };
    } in
    record {
      answer = says ∙ (r.answer ∙ ap (λ (x : KeySlot). given_reply Buffered x) h.slot.is);
      has = subst (λ (x : Translator). Has Buffered k x (told s)) (sym is) has;
    }
complete_own Piped ask t s kind h =
    let half : is_buffered ask.kind ≡ false = piped_half ask.kind kind in
    let k : Key = key_of ask in
    let is : completed ask t ≡ record t { pipeline = Pipelines.completed k t.pipeline } = ap (λ (b : Bool). completed_by b ask t) half in
    let says : complete_answer ask t ≡ Pipelines.complete_answer k t.pipeline = ap (λ (b : Bool). complete_answer_by b ask t) half in
    let same : Pipelines.completed k t.pipeline ≡ t.pipeline = Piping.own_complete k t.pipeline h.keyed.entries in
    let has : Has Piped k t (told s) = record {
      slot = record {
        is_told = true;
        packet = h.slot.packet;
        is = Piping.told_slot h.slot.is_told h.slot.packet (find (has_key k) t.pipeline) ∙ ap (λ (x : KeySlot). told x) h.slot.is;
      };
      keyed = h.keyed;
    } in
    record {
      answer = says ∙ (Piping.own_answer k t.pipeline h.slot.is_told h.slot.packet h.keyed.entries
          ∙ ap (λ (x : KeySlot). given_reply Piped x) h.slot.is);
      has = subst (λ (x : Translator). Has Piped k x (told s)) (sym is)
          (subst (λ (es : List Entry). Has Piped k (record { bulk = t.bulk; pipeline = es }) (told s)) (sym same) has);
    }

complete_other : (way : Way) (k : Key) (ask : Ask) (t : Translator) (s : KeySlot) → is_same_key (key_of ask) k ≡ false → Has way k t s
    → Has way k (completed ask t) s
complete_other Buffered k ask t s apart h =
    by_half (is_buffered ask.kind)
    (λ half.
    let is : completed ask t ≡ record t { bulk = Buffers.completed (key_of ask) t.bulk } = ap (λ (b : Bool). completed_by b ask t) half in
    let r = Completing.other_complete k (key_of ask) t.bulk apart in
    subst (λ (x : Translator). Has Buffered k x s) (sym is)
    (record {
      slot = buffer_slot k (record t { bulk = Buffers.completed (key_of ask) t.bulk }) s
          (Completing.same_slot k t.bulk (Buffers.completed (key_of ask) t.bulk) r ∙ h.slot.is);
      keyed = record {
        once = Completing.same_once k t.bulk (Buffers.completed (key_of ask) t.bulk) r h.keyed.once;
        entries = h.keyed.entries;
        none = h.keyed.none;
      };
    }))
    (λ half.
    let is : completed ask t ≡ record t { pipeline = Pipelines.completed (key_of ask) t.pipeline } =
    ap (λ (b : Bool). completed_by b ask t) half in
    subst (λ (x : Translator). Has Buffered k x s) (sym is)
    (other_entries k t (record t { pipeline = Pipelines.completed (key_of ask) t.pipeline }) s refl
    (Entering.other_complete k (key_of ask) t.pipeline apart) h))
complete_other Piped k ask t s apart h =
    by_half (is_buffered ask.kind)
    (λ half.
    let is : completed ask t ≡ record t { bulk = Buffers.completed (key_of ask) t.bulk } = ap (λ (b : Bool). completed_by b ask t) half in
    let r = Completing.other_complete k (key_of ask) t.bulk apart in
    subst (λ (x : Translator). Has Piped k x s) (sym is)
    (record {
      slot = record { is_told = h.slot.is_told; packet = h.slot.packet; is = h.slot.is };
      keyed = record {
        once = h.keyed.once;
        entries = h.keyed.entries;
        first = r.first ∙ h.keyed.first;
        second = r.second
            ∙ h.keyed.second;
      };
    }))
    (λ half.
    let is : completed ask t ≡ record t { pipeline = Pipelines.completed (key_of ask) t.pipeline } =
    ap (λ (b : Bool). completed_by b ask t) half in
    subst (λ (x : Translator). Has Piped k x s) (sym is)
    (left_piped k t (Pipelines.completed (key_of ask) t.pipeline) s (Entering.other_complete k (key_of ask) t.pipeline apart) h))

pub complete_by_key : CompleteByKey
complete_by_key = record {
  own = complete_own;
  other = λ way k ask t s kind apart h. complete_other way k ask t s apart h;
}

-- ---- a clear, and an opening

pub clear_by_key : ClearByKey
clear_by_key Buffered c k t s h = record {
  slot = buffer_slot k (cleared c t) (if is_cleared_by c k then Empty else s)
      (Completing.clear_slot c k t.bulk ∙ ap (λ (x : KeySlot). if is_cleared_by c k then Empty else x) h.slot.is);
  keyed = record { once = Completing.clear_once c k t.bulk h.keyed.once; entries = h.keyed.entries; none = h.keyed.none };
}
clear_by_key Piped c k t s h = record {
  slot = record { is_told = h.slot.is_told; packet = h.slot.packet; is = h.slot.is };
  keyed = record {
    once = h.keyed.once;
    entries = h.keyed.entries;
    first = Completing.clear_first c k t.bulk h.keyed.first;
    second = Completing.clear_second c k t.bulk h.keyed.second;
  };
}

pub reset_by_key : ResetByKey
reset_by_key Buffered k = record { slot = buffer_slot k opening Empty refl; keyed = record { once = inl refl; entries = tt; none = refl } }
reset_by_key Piped k = record {
  slot = record { is_told = false; packet = []; is = refl };
  keyed = record { once = tt; entries = tt; first = refl; second = refl };
}

-- ---- the work of a microframe

pub work_by_key : {W : Type 0} (transacts : W → Ask → List ℕ → Reply → W → Type 0) → WorkByKey transacts
work_by_key transacts Buffered k frindex old before new after s w h =
    let p = Piping.others_piped transacts k frindex old.pipeline before w.between new.pipeline h.keyed.none h.keyed.entries w.pipeline in
    let b = Working.own_work transacts k (room_left old) old.bulk w.between new.bulk after h.keyed.once w.bulk in
    record {
      slot = slot_of k new.bulk;
      has = record {
        slot = buffer_slot k new (slot_of k new.bulk) refl;
        keyed =
            record { once = b.once; entries = p.entries; none = p.none };
      };
      work = record {
        made = slot_of k new.bulk;
        turns = subst (λ (x : KeySlot). TurnsOfKey transacts Buffered k x before (slot_of k new.bulk) after) h.slot.is
            (Working.before_it transacts k Buffered _ _ before w.between after p.others b.turns);
        seen = slot_of k new.bulk;
        shows = as_made;
        leaves = refl;
      };
    }
work_by_key transacts Piped k frindex old before new after s w h =
    let p = Piping.piped_work transacts k h.slot.is_told h.slot.packet frindex old.pipeline before w.between new.pipeline h.keyed.once
    h.keyed.entries w.pipeline in
    let b = Working.none_work transacts k (room_left old) old.bulk w.between new.bulk after h.keyed.first h.keyed.second w.bulk in
    let slot : KeySlot = slot_at p.is_told p.packet k new.pipeline in
    record {
      slot = slot;
      has = record {
        slot = record { is_told = p.is_told; packet = p.packet; is = refl };
        keyed = record { once = p.once; entries = p.entries; first = b.first; second = b.second };
      };
      work = record {
        made = p.work.made;
        turns = subst (λ (x : KeySlot). TurnsOfKey transacts Piped k x before p.work.made after) h.slot.is
            (Working.behind_it transacts k Piped _ _ before w.between after p.work.turns b.others);
        seen = p.work.seen;
        shows = p.work.shows;
        leaves = p.work.leaves;
      };
    }

-- ---- what is asked

by_slot : (k : Key) (x y : KeySlot) → IsAskedFor k x → IsAskedFor k y → IsAskedFor k (either_slot x y)
by_slot k Empty y p q = q
by_slot k (Asked a) y p q = p
by_slot k (Hidden a r) y p q = p
by_slot k (There a r) y p q = p
by_slot k (Told a r) y p q = p

taken_asked : (k : Key) (a : Taken) (own : Bool) → is_same_key (key_of a.ask) k ≡ own → IsAskedFor k (if own then Asked a else Empty)
taken_asked k a true on = same_key (key_of a.ask) k on
taken_asked k a false on = tt

ready_asked : (k : Key) (a : Taken) (r : Reply) (own : Bool) → IsAskedFor k (if own then There a r else Empty)
ready_asked k a r true = tt
ready_asked k a r false = tt

old_asked : (k : Key) (a : Taken) (r : Reply) (own : Bool) → IsAskedFor k (if own then Told a r else Empty)
old_asked k a r true = tt
old_asked k a r false = tt

buffer_asked : (k : Key) (b : BufferContent) → IsAskedFor k (slot_in k b)
buffer_asked k Free = tt
buffer_asked k (Pending a n) = taken_asked k a (is_same_key (key_of a.ask) k) refl
buffer_asked k (Ready a r) = ready_asked k a (reply_of r) (is_same_key (key_of a.ask) k)
buffer_asked k (Old a r) = old_asked k a (reply_of r) (is_same_key (key_of a.ask) k)

shown_asked : (k : Key) (c is_told : Bool) (a : Taken) (r : Reply) → IsAskedFor k (shown c is_told a r)
shown_asked k false is_told a r = tt
shown_asked k true false a r = tt
shown_asked k true true a r = tt

entry_asked : (k : Key) (is_told : Bool) (packet : List ℕ) (e : Entry) (x : Exchange) → key_of e.ask ≡ k
    → IsAskedFor k (exchange_slot is_told packet x e)
entry_asked k is_told packet e (Ahead sent) is = is
entry_asked k is_told packet e (Made r) is = shown_asked k (nat_le (called_for e) e.done) is_told _ _

entries_asked : (k : Key) (is_told : Bool) (packet : List ℕ) (es : List Entry) → AreEntries k es
    → IsAskedFor k (slot_at is_told packet k es)
entries_asked k is_told packet [] are = tt
entries_asked k is_told packet (e ∷ es) are =
    elim (on_or_off (has_key k e)) [
      | inl on ↦
          subst (λ (o : Option Entry). IsAskedFor k (slot_if is_told packet o)) (sym (Entering.find_here k e es on))
          (entry_asked k is_told packet e e.exchange (sym (are.0).key ∙ same_key e.key k on))
      | inr off ↦
          subst (λ (o : Option Entry). IsAskedFor k (slot_if is_told packet o)) (sym (Entering.find_later k e es off))
          (entries_asked k is_told packet es are.2)
    ]

pub asked_by_key : AskedByKey
asked_by_key Buffered k t s h =
    subst (λ (x : KeySlot). IsAskedFor k x) h.slot.is
    (by_slot k (slot_in k t.bulk.first) (slot_in k t.bulk.second) (buffer_asked k t.bulk.first) (buffer_asked k t.bulk.second))
asked_by_key Piped k t s h =
    subst (λ (x : KeySlot). IsAskedFor k x) h.slot.is (entries_asked k h.slot.is_told h.slot.packet t.pipeline h.keyed.entries)
