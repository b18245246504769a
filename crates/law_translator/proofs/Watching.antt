-- The entries of a watched pipeline are those of the pipeline.
use Rattle.std.proofs.Common.{◌≡◌, ℕ, ◌-◌, List, [], ◌∷◌, ◌++◌, length, refl, ◌∙◌, ap, inl, inr}
use Rattle.law_common.proofs.Booleans.{on_or_off}
use Rattle.usb_base.specs.declared.packets.Ask.{Ask}
use Rattle.usb_base.specs.declared.packets.Reply.{Reply}
use Rattle.hub_keys.specs.Keys.{key_of}
use Rattle.hub_keys.specs.declared.key.Key.{Key}
use Rattle.tt_pipeline.specs.declared.entry.Entry.{Entry}
use Rattle.tt_pipeline.specs.declared.rows.StartRow.{StartRow}
use Rattle.tt_pipeline.specs.declared.rows.StartRow.TheVariants.{Enters, Joins, Forgotten}
use Rattle.tt_pipeline.specs.Answers.{given}
use Rattle.tt_pipeline.specs.Starting.{has_key, with_first, without_first, start_row, after_start}
use Rattle.tt_pipeline.specs.Work.{fresh, joined}
use Rattle.tt_pipeline.specs.Working.{used_at, turned, turned_all, first_reply, later_replies}
use Rattle.law_translator.specs.Frames.{Event, Start, Complete, Work, Frame, entries_of, is_of, changed, begun, worked_all, next, run, contents_after, run_contents}
use Rattle.claims_world.specs.Watched.{Watched}

with_entries : (k : Key) (f : Entry → Entry) (ws : List Watched) → entries_of (with_first (is_of k) (changed f) ws) ≡ with_first (has_key k) f (entries_of ws)
with_entries k f [] = refl
with_entries k f (w ∷ ws) =
    elim (on_or_off (is_of k w)) [
      | inl t ↦ rw t refl
      | inr n ↦ rw n (ap (λ (es : List Entry). w.entry ∷ es) (with_entries k f ws))
    ]

without_entries : (k : Key) (ws : List Watched) → entries_of (without_first (is_of k) ws) ≡ without_first (has_key k) (entries_of ws)
without_entries k [] = refl
without_entries k (w ∷ ws) =
    elim (on_or_off (is_of k w)) [
      | inl t ↦ rw t refl
      | inr n ↦ rw n (ap (λ (es : List Entry). w.entry ∷ es) (without_entries k ws))
    ]

snoc_entries : (ws : List Watched) (w : Watched) → entries_of (ws ++ w ∷ []) ≡ entries_of ws ++ w.entry ∷ []
snoc_entries [] w = refl
snoc_entries (x ∷ xs) w = ap (λ (es : List Entry). x.entry ∷ es) (snoc_entries xs w)

begun_entries : (row : StartRow) (ask : Ask) (bytes : List ℕ) (stuff : ℕ) (ws : List Watched)
    → entries_of (begun row ask bytes stuff ws) ≡ after_start row ask bytes stuff (entries_of ws)
begun_entries Enters ask bytes stuff ws =
    snoc_entries (without_first (is_of (key_of ask)) ws) (record { entry = fresh ask bytes stuff; gaps = 0 }) ∙ ap (λ (es : List Entry). es ++ fresh ask bytes stuff ∷ []) (without_entries (key_of ask) ws)
begun_entries Joins ask bytes stuff ws = with_entries (key_of ask) (joined ask bytes) ws
begun_entries Forgotten ask bytes stuff ws = refl

worked_entries : (room : ℕ) (replies : List Reply) (ws : List Watched) → entries_of (worked_all room replies ws) ≡ turned_all room replies (entries_of ws)
worked_entries room replies [] = refl
worked_entries room replies (w ∷ ws) =
    ap (λ (es : List Entry). turned room (first_reply replies) w.entry ∷ es) (worked_entries (room - used_at room w.entry) (later_replies replies) ws)

watched_one : (f : Frame) (event : Event) → entries_of (next f event).watched ≡ contents_after event (entries_of f.watched)
watched_one f (Start ask bytes stuff) = begun_entries (start_row ask (length bytes) (entries_of f.watched)) ask bytes stuff f.watched
watched_one f (Complete key) = with_entries key given f.watched
watched_one f (Work replies) = worked_entries 188 replies f.watched
watched_one f _ = refl

pub the_watch_only_watches : (events : List Event) → (f : Frame)
    → entries_of (run events f).watched ≡ run_contents events (entries_of f.watched)
the_watch_only_watches [] f = refl
the_watch_only_watches (event ∷ events) f =
    the_watch_only_watches events (next f event) ∙ ap (λ (es : List Entry). run_contents events es) (watched_one f event)
