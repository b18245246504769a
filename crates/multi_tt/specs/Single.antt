-- One translator: bulk and control go into its buffers, interrupt and isochronous into its pipeline (USB 2.0, 11.14 to 11.21).
--     started, start_answer           a start-split
--     completed, complete_answer      a complete-split
--     cleared                         ClearTTBuffer (11.24.2.3); ResetTT leaves it as at the opening (11.24.2.9)
--     TranslatorWorks, AllWork        the work of a microframe on the bus below, of one and of several in their order
--     worked_by                       the same as a function of what is heard
use Rattle.std.specs.Prelude.{◌≡◌, ℕ, ◌-◌, Bool, true, false, List, [], ◌∷◌}
use Rattle.usb_base.specs.declared.packets.Ask.{Ask}
use Rattle.usb_base.specs.declared.packets.EpKind.{EpKind}
use Rattle.usb_base.specs.declared.packets.EpKind.TheVariants.{Control, Iso, Bulk, Interrupt}
use Rattle.usb_base.specs.declared.packets.Reply.{Reply}
use Rattle.usb_base.specs.declared.packets.Reply.TheVariants.{Silent}
use Rattle.hub_keys.specs.Keys.{key_of}
use Rattle.hub_keys.specs.declared.key.Key.{Key}
use Rattle.tt_bulk.specs.Rows as Buffered
use Rattle.tt_bulk.specs.Work.{Works, worked}
use Rattle.tt_pipeline.specs.Answers as Piped
use Rattle.tt_pipeline.specs.Starting as Piped_starts
use Rattle.tt_pipeline.specs.Working.{budget, used_by, IsWorked, worked_with}
use Rattle.multi_tt.specs.Translators.{Translator}

abbrev pub is_buffered : EpKind → Bool
is_buffered Bulk = true
is_buffered Control = true
is_buffered Interrupt = false
is_buffered Iso = false

-- no handshake answers a periodic start-split
abbrev pub start_answer_by : Bool → Ask → Translator → Reply
start_answer_by true ask t = Buffered.start_answer ask t.bulk
start_answer_by false ask t = Silent

abbrev pub start_answer : Ask → Translator → Reply
start_answer ask t = start_answer_by (is_buffered ask.kind) ask t

abbrev pub started_by : Bool → Ask → List ℕ → ℕ → Translator → Translator
started_by true ask bytes stuff t = record t { bulk = Buffered.started ask bytes stuff t.bulk }
started_by false ask bytes stuff t = record t { pipeline = Piped_starts.started ask bytes stuff t.pipeline }

-- after a start with these bytes, which stuffed bits make longer by a number in 36 (7.1.9)
abbrev pub started : Ask → List ℕ → ℕ → Translator → Translator
started ask bytes stuff t = started_by (is_buffered ask.kind) ask bytes stuff t

abbrev pub complete_answer_by : Bool → Ask → Translator → Reply
complete_answer_by true ask t = Buffered.complete_answer (key_of ask) t.bulk
complete_answer_by false ask t = Piped.complete_answer (key_of ask) t.pipeline

abbrev pub complete_answer : Ask → Translator → Reply
complete_answer ask t = complete_answer_by (is_buffered ask.kind) ask t

abbrev pub completed_by : Bool → Ask → Translator → Translator
completed_by true ask t = record t { bulk = Buffered.completed (key_of ask) t.bulk }
completed_by false ask t = record t { pipeline = Piped.completed (key_of ask) t.pipeline }

abbrev pub completed : Ask → Translator → Translator
completed ask t = completed_by (is_buffered ask.kind) ask t

abbrev pub cleared : Key → Translator → Translator
cleared key t = record t { bulk = Buffered.cleared key t.bulk }

-- ---- the work of a microframe

-- the byte-times that the pipeline leaves for the buffers
abbrev pub room_left : Translator → ℕ
room_left t = budget - used_by budget t.pipeline

-- the work on the bus below: the pipeline first, then the buffers
pub record TranslatorWorks {W : Type 0} (transacts : W → Ask → List ℕ → Reply → W → Type 0) (frindex : ℕ) (old : Translator) (before : W) (new : Translator) (after : W) : Type 0 where
  pub between : W
  pub pipeline : IsWorked transacts frindex old.pipeline before between new.pipeline
  pub bulk : Works transacts (room_left old) old.bulk between new.bulk after

-- the work of these translators on the bus below, one after the other
abbrev pub AllWork : {W : Type 0} → (W → Ask → List ℕ → Reply → W → Type 0) → ℕ → List Translator → W → W → List Translator → Type 0
AllWork transacts frindex [] before after new = (after ≡ before) × (new ≡ [])
AllWork {W} transacts frindex (t ∷ ts) before after new =
    (mid : W) × (first : Translator) × (rest : List Translator) × TranslatorWorks transacts frindex t before first mid × AllWork transacts frindex ts mid after rest × (new ≡ first ∷ rest)

-- what a translator hears below in a microframe: one answer for each entry of its pipeline, of which those count whose transaction is made,
-- and one at the turn of each buffer
pub record Heard : Type 0 where
  pub replies : List Reply
  pub earlier : Reply
  pub later : Reply

abbrev pub silence : Heard
silence = record { replies = []; earlier = Silent; later = Silent }

abbrev pub worked_by : ℕ → Heard → Translator → Translator
worked_by frindex heard t = record {
  bulk = worked (room_left t) heard.earlier heard.later t.bulk;
  pipeline = worked_with frindex heard.replies t.pipeline;
}
