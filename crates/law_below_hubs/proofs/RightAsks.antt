-- What the translators of a hub ask below is what was put into them.
use Rattle.std.proofs.Common.{◌≡◌, ℕ, ◌+◌, ◌-◌, Bool, true, false, List, [], ◌∷◌, ◌++◌, length, inl, inr, Option, Some, None, if◌then◌else◌, refl, sym, subst, ap, ◌∙◌}
use Rattle.std.specs.Prelude.{nat_le, ◌%◌, ◌==◌}
use Rattle.usb_base.specs.declared.packets.Ask.{Ask}
use Rattle.usb_base.specs.declared.packets.Reply.{Reply}
use Rattle.hub_keys.specs.Asks.{classic_of}
use Rattle.hub_keys.specs.Keys.{key_of}
use Rattle.hub_keys.specs.declared.key.Key.{Key}
use Rattle.tt_bulk.specs.declared.answers.Answer.{Answer}
use Rattle.tt_bulk.specs.declared.answers.Answer.TheVariants as Answers
use Rattle.tt_bulk.specs.declared.rows.BufferIndex.{BufferIndex}
use Rattle.tt_bulk.specs.declared.rows.BufferIndex.TheVariants.{First, Second}
use Rattle.tt_bulk.specs.declared.rows.StartRow.{StartRow}
use Rattle.tt_bulk.specs.declared.rows.StartRow.TheVariants as Starts
use Rattle.tt_bulk.specs.declared.rows.CompleteRow.{CompleteRow}
use Rattle.tt_bulk.specs.declared.rows.CompleteRow.TheVariants as Completes
use Rattle.tt_bulk.specs.Answers.{result_of}
use Rattle.tt_bulk.specs.Contents.{Taken, BufferContent, Free, Pending, Ready, Old, TwoBuffers}
use Rattle.tt_bulk.specs.Rows.{after_start, once_given, after_complete, is_cleared_by, cleared_buffer}
use Rattle.tt_bulk.specs.Rows as Buffers
use Rattle.tt_bulk.specs.Work.{Turn, Tries, Rests, due, turn_of, after_result, after_turn, earlier_turn, later_turn, room_after, worked, Works}
use Rattle.tt_bulk.specs.Work as Buffered
use Rattle.tt_pipeline.specs.declared.entry.Entry.{Entry}
use Rattle.tt_pipeline.specs.declared.rows.AnswerRow.{AnswerRow}
use Rattle.tt_pipeline.specs.declared.rows.AnswerRow.TheVariants as Rows
use Rattle.tt_pipeline.specs.declared.rows.StartRow.{StartRow as PipeRow}
use Rattle.tt_pipeline.specs.declared.rows.StartRow.TheVariants.{Enters, Joins, Forgotten}
use Rattle.tt_pipeline.specs.Answers.{answer_row, given_at, given}
use Rattle.tt_pipeline.specs.Starting.{with_first, has_key, at_key, without}
use Rattle.tt_pipeline.specs.Starting as PipelineStarts
use Rattle.tt_pipeline.specs.Work.{fresh, joined, moved, is_due, answered}
use Rattle.tt_pipeline.specs.Work as Piped
use Rattle.tt_pipeline.specs.Working.{budget, used_at, IsWorked}
use Rattle.tt_pipeline.specs.Working as PipelineWork
use Rattle.tt_pipeline.proofs.Places.{on_or_off}
use Rattle.multi_tt.specs.Translators.{Translator}
use Rattle.multi_tt.specs.Single.{is_buffered, started_by, completed_by, room_left, TranslatorWorks}
use Rattle.law_below_hubs.specs.RightAsks.{IsRightIn, AreRightEntries, AreRight, AllRight, Rightly, KeepsRight, WorksRightly}

module _ (right : Ask → Type 0) where
  abbrev In : BufferContent → Type 0
  In = IsRightIn right

  abbrev Entries : List Entry → Type 0
  Entries = AreRightEntries right

  record AreBoth (w : TwoBuffers) : Type 0 where
    first : In w.first
    second : In w.second

  -- ---- calls on the buffers

  start_both : (row : StartRow) (t : Taken) (w : TwoBuffers) → right (classic_of t.ask) → AreBoth w → AreBoth (after_start row t w)
  start_both Starts.Repeated t w r b = b
  start_both (Starts.Takes First) t w r b = record { first = r; second = b.second }
  start_both (Starts.Takes Second) t w r b = record { first = b.first; second = r }
  start_both Starts.Full t w r b = b

  given_right : (b : BufferContent) → In b → In (once_given b)
  given_right Free r = r
  given_right (Pending t n) r = r
  given_right (Ready t a) r = r
  given_right (Old t a) r = r

  complete_both : (row : CompleteRow) (w : TwoBuffers) → AreBoth w → AreBoth (after_complete row w)
  complete_both Completes.Waits w b = b
  complete_both (Completes.Gives First) w b = record { first = given_right w.first b.first; second = b.second }
  complete_both (Completes.Gives Second) w b = record { first = b.first; second = given_right w.second b.second }
  complete_both Completes.Unknown w b = b

  cut_right : (cut : Bool) (b : BufferContent) → In b → In (if cut then Free else b)
  cut_right true b r = tt
  cut_right false b r = r

  cleared_right : (k : Key) (b : BufferContent) → In b → In (cleared_buffer k b)
  cleared_right k Free r = r
  cleared_right k (Pending t n) r = cut_right (is_cleared_by k (key_of t.ask)) (Pending t n) r
  cleared_right k (Ready t a) r = cut_right (is_cleared_by k (key_of t.ask)) (Ready t a) r
  cleared_right k (Old t a) r = cut_right (is_cleared_by k (key_of t.ask)) (Old t a) r

  -- ---- calls on the pipeline

  last_right : (es : List Entry) (e : Entry) → Entries es → right (classic_of e.ask) → Entries (es ++ e ∷ [])
  last_right [] e are r = (r, tt)
  last_right (x ∷ xs) e are r = (are.0, last_right xs e are.1 r)

  without_right : (k : Key) (es : List Entry) → Entries es → Entries (without k es)
  without_right k [] are = tt
  without_right k (e ∷ es) are =
      elim (on_or_off (has_key k e)) [
        | inl on ↦ rw on are.1
        | inr off ↦ rw off (are.0, without_right k es are.1)
      ]

  changed_right : (k : Key) (f : Entry → Entry) (es : List Entry) → ((e : Entry) → (f e).ask ≡ e.ask) → Entries es → Entries (at_key k f es)
  changed_right k f [] same are = tt
  changed_right k f (e ∷ es) same are =
      elim (on_or_off (has_key k e)) [
        | inl on ↦ rw on (subst (λ (a : Ask). right (classic_of a)) (sym (same e)) are.0, are.1)
        | inr off ↦ rw off (are.0, changed_right k f es same are.1)
      ]

  entered_right : (row : PipeRow) (ask : Ask) (bytes : List ℕ) (stuff : ℕ) (es : List Entry) → right (classic_of ask) → Entries es
      → Entries (PipelineStarts.after_start row ask bytes stuff es)
  entered_right Enters ask bytes stuff es r are =
      last_right (without (key_of ask) es) (fresh ask bytes stuff) (without_right (key_of ask) es are) r
  entered_right Joins ask bytes stuff es r are = changed_right (key_of ask) (joined ask bytes) es (λ e. refl) are
  entered_right Forgotten ask bytes stuff es r are = are

  given_ask : (row : AnswerRow) (e : Entry) → (given_at row e).ask ≡ e.ask
  given_ask Rows.NotYet e = refl
  given_ask Rows.Result e = refl
  given_ask Rows.Unheard e = refl
  given_ask Rows.More e = refl
  given_ask Rows.Last e = refl

  -- ---- calls on a translator

  start_right : (half : Bool) (ask : Ask) (bytes : List ℕ) (stuff : ℕ) (t : Translator) → right (classic_of ask) → AreRight right t
      → AreRight right (started_by half ask bytes stuff t)
  start_right true ask bytes stuff t r h =
      let b = start_both (Buffers.start_row_of (key_of ask) t.bulk) (record { ask = ask; packet = bytes; stuff = stuff }) t.bulk r
      (record { first = h.first; second = h.second }) in
      record { first = b.first; second = b.second; entries = h.entries }
  start_right false ask bytes stuff t r h =
      record {
        first = h.first;
        second = h.second;
        entries =
            entered_right (PipelineStarts.start_row ask (length bytes) t.pipeline) ask bytes stuff t.pipeline r h.entries;
      }

  complete_right : (half : Bool) (ask : Ask) (t : Translator) → AreRight right t → AreRight right (completed_by half ask t)
  complete_right true ask t h =
      let b = complete_both (Buffers.complete_row_of (key_of ask) t.bulk) t.bulk (record { first = h.first; second = h.second }) in
      record { first = b.first; second = b.second; entries = h.entries }
  complete_right false ask t h =
      record {
        first = h.first;
        second = h.second;
        entries =
            changed_right (key_of ask) given t.pipeline (λ e. given_ask (answer_row e) e) h.entries;
      }

  pub keeps_right : KeepsRight right
  keeps_right = record {
    opens = record { first = tt; second = tt; entries = tt };
    starts = λ ask bytes stuff t r h. start_right (is_buffered ask.kind) ask bytes stuff t r h;
    completes = λ ask t h. complete_right (is_buffered ask.kind) ask t h;
    clears = λ k t h. record
        { first = cleared_right k t.bulk.first h.first; second = cleared_right k t.bulk.second h.second; entries = h.entries };
  }

  -- ---- work

  module _ {W : Type 0} (transacts : W → Ask → List ℕ → Reply → W → Type 0) where
    abbrev Made : W → Ask → List ℕ → Reply → W → Type 0
    Made = Rightly right transacts

    tried_right : (t : Taken) (b : Bool) (r : Reply) (before after : W) → right (classic_of t.ask)
        → Buffered.Asks transacts (if b then Tries t else Rests) before r after
        → Buffered.Asks Made (if b then Tries t else Rests) before r after
    tried_right t true r before after h asks = (asks, h)
    tried_right t false r before after h asks = asks

    turn_right : (room : ℕ) (b : BufferContent) (r : Reply) (before after : W) → In b
        → Buffered.Asks transacts (turn_of room b) before r after
        → Buffered.Asks Made (turn_of room b) before r after
    turn_right room Free r before after h asks = asks
    turn_right room (Pending t n) r before after h asks = tried_right t (nat_le (due t) room) r before after h asks
    turn_right room (Ready t a) r before after h asks = asks
    turn_right room (Old t a) r before after h asks = asks

    third_right : (t : Taken) (n : ℕ) (c : Bool) → right (classic_of t.ask) → In (if c then Ready t Answers.Stall else Pending t (n + 1))
    third_right t n true h = tt
    third_right t n false h = h

    result_right : (o : Option Answer) (b : BufferContent) → In b → In (after_result o b)
    result_right (Some a) Free h = h
    result_right (Some a) (Pending t n) h = tt
    result_right (Some a) (Ready t r) h = h
    result_right (Some a) (Old t r) h = h
    result_right None Free h = h
    result_right None (Pending t n) h = third_right t n (nat_le 2 n) h
    result_right None (Ready t r) h = h
    result_right None (Old t r) h = h

    left_right : (turn : Turn) (r : Reply) (b : BufferContent) → In b → In (after_turn turn r b)
    left_right (Tries t) r b h = result_right (result_of r) b h
    left_right Rests r b h = h

    record BothWork (room : ℕ) (old : TwoBuffers) (before : W) (new : TwoBuffers) (after : W) : Type 0 where
      work : Works Made room old before new after
      leaves : AreBoth new

    both_by : (x y : BufferContent) (latest : BufferIndex) (room : ℕ) (before between after : W) (e l : Reply)
        → Buffered.Asks transacts (earlier_turn room (record { first = x; second = y; latest = latest })) before e between
        → Buffered.Asks transacts (later_turn room (record { first = x; second = y; latest = latest })) between l after
        → In x → In y
        → BothWork room (record { first = x; second = y; latest = latest }) before
        (worked room e l (record { first = x; second = y; latest = latest })) after
    both_by x y First room before between after e l asks behind p q = record {
      work = record {
        earlier = e;
        between = between;
        later = l;
        asks_earlier = turn_right room y e before between q asks;
        asks_later = turn_right (room_after room (turn_of room y)) x l between after p behind;
        becomes = refl;
      };
      leaves = record {
        first = left_right (turn_of (room_after room (turn_of room y)) x) l x p;
        second =
            left_right (turn_of room y) e y q;
      };
    }
    both_by x y Second room before between after e l asks behind p q = record {
      work = record {
        earlier = e;
        between = between;
        later = l;
        asks_earlier = turn_right room x e before between p asks;
        asks_later = turn_right (room_after room (turn_of room x)) y l between after q behind;
        becomes = refl;
      };
      leaves = record {
        first = left_right (turn_of room x) e x p;
        second =
            left_right (turn_of (room_after room (turn_of room x)) y) l y q;
      };
    }

    both_right : (room : ℕ) (old : TwoBuffers) (before : W) (new : TwoBuffers) (after : W) → In old.first → In old.second
        → Works transacts room old before new after
        → BothWork room old before new after
    both_right room old before new after p q w =
        subst (λ (x : TwoBuffers). BothWork room old before x after) (sym w.becomes)
        (both_by old.first old.second old.latest room before w.between after w.earlier w.later w.asks_earlier w.asks_later p q)

    entry_right : (b : Bool) (m : Entry) (r : Reply) (before after : W) → right (classic_of m.ask)
        → Piped.Asks transacts b m before r after → Piped.Asks Made b m before r after
    entry_right true m r before after h asks = (asks, h)
    entry_right false m r before after h asks = asks

    made_ask : (b : Bool) (r : Reply) (m : Entry) → (answered b r m).ask ≡ m.ask
    made_ask true r m = refl
    made_ask false r m = refl

    record EntriesWork (room : ℕ) (es : List Entry) (before after : W) (new : List Entry) : Type 0 where
      work : PipelineWork.Works Made room es before after new
      leaves : Entries new

    entries_right : (room : ℕ) (es : List Entry) (before after : W) (new : List Entry) → Entries es
        → PipelineWork.Works transacts room es before after new
        → EntriesWork room es before after new
    entries_right room [] before after new h (same, is) =
        record { work = (same, is); leaves = subst (λ (xs : List Entry). Entries xs) (sym is) tt }
    entries_right room (e ∷ es) before after new h (mid, first, rest, turn, works, is) =
        let m : Entry = moved room e in
        let l = entries_right (room - used_at room e) es mid after rest h.1 works in
        let same : first.ask ≡ e.ask = ap (λ (x : Entry). x.ask) turn.becomes ∙ made_ask (is_due m) turn.reply m in
        record {
          work = (
            mid,
            first,
            rest,
            record { reply = turn.reply; asks = entry_right (is_due m) m turn.reply before mid h.0 turn.asks; becomes = turn.becomes },
            l.work,
            is,
          );
          leaves = subst (λ (xs : List Entry). Entries xs) (sym is) (subst (λ (a : Ask). right (classic_of a)) (sym same) h.0, l.leaves);
        }

    kept_right : (b : Bool) (es : List Entry) → Entries es → Entries (if b then [] else es)
    kept_right true es h = tt
    kept_right false es h = h

    record OneWorks (frindex : ℕ) (old : Translator) (before : W) (new : Translator) (after : W) : Type 0 where
      work : TranslatorWorks Made frindex old before new after
      leaves : AreRight right new

    one_right : (frindex : ℕ) (old : Translator) (before : W) (new : Translator) (after : W) → AreRight right old
        → TranslatorWorks transacts frindex old before new after
        → OneWorks frindex old before new after
    one_right frindex old before new after h w =
        let p = entries_right budget old.pipeline before w.between w.pipeline.worked h.entries w.pipeline.works in
        let b = both_right (room_left old) old.bulk w.between new.bulk after h.first h.second w.bulk in
        record {
          work = record {
            between = w.between;
            pipeline = record { worked = w.pipeline.worked; works = p.work; stays = w.pipeline.stays };
            bulk = b.work;
          };
          leaves = record {
            first = b.leaves.first;
            second = b.leaves.second;
            entries = subst (λ (xs : List Entry). Entries xs) (sym w.pipeline.stays)
                (kept_right (frindex % 8 == 0) w.pipeline.worked p.leaves);
          };
        }

    pub works_rightly : WorksRightly right transacts
    works_rightly frindex [] before after new h (same, is) =
        record { work = (same, is); leaves = subst (λ (xs : List Translator). AllRight right xs) (sym is) tt }
    works_rightly frindex (t ∷ ts) before after new h (mid, first, rest, one, others, is) =
        let o = one_right frindex t before first mid h.0 one in
        let l = works_rightly frindex ts mid after rest h.1 others in
        record {
          work = (mid, first, rest, o.work, l.work, is);
          leaves = subst (λ (xs : List Translator). AllRight right xs) (sym is) (o.leaves, l.leaves);
        }
