-- The lines of a script: for each first word the forms of what follows it, and for each form its slots.
use Rattle.std.specs.Prelude.{ℕ, ◌==◌, Bool, true, false, if◌then◌else◌, List, [], ◌∷◌, Option, Some, None, codes}
use Rattle.std.specs.List.{find}
use Rattle.std.specs.Str.{bytes_eq}
use Rattle.usb_base.specs.Limits.{longest_qtd, most_memory}
use Rattle.script_forms.specs.declared.table.FirstWord.{FirstWord}
use Rattle.script_forms.specs.declared.table.FirstWord.TheVariants as F
use Rattle.script_forms.specs.declared.table.Keyword.{Keyword}
use Rattle.script_forms.specs.declared.table.Keyword.TheVariants as K
use Rattle.script_forms.specs.declared.table.Form.{Form}
use Rattle.script_forms.specs.declared.table.Form.TheVariants as form
use Rattle.script_forms.specs.declared.table.Slot.{Slot}
use Rattle.script_forms.specs.declared.table.Slot.TheVariants.{Number, Hex, Setup, Key, Way, Bus, Fate}

-- the first words
abbrev pub first_text : FirstWord → List ℕ
first_text F.Mem = codes "mem"
first_text F.Hub = codes "hub"
first_text F.Dev = codes "dev"
first_text F.Ep = codes "ep"
first_text F.Reply = codes "reply"
first_text F.Fate = codes "fate"
first_text F.Hold = codes "hold"
first_text F.Open = codes "open"
first_text F.Cancel = codes "cancel"
first_text F.Get = codes "get"
first_text F.Put = codes "put"
first_text F.Control = codes "control"
first_text F.Iso = codes "iso"
first_text F.Order = codes "order"
first_text F.Frames = codes "frames"
first_text F.Stuff = codes "stuff"
first_text F.Epoch = codes "epoch"
first_text F.Clear = codes "clear"
first_text F.Park = codes "park"
first_text F.Root = codes "root"
first_text F.Classic = codes "classic"
first_text F.Plug = codes "plug"
first_text F.Unplug = codes "unplug"
first_text F.Reset = codes "reset"
first_text F.Give = codes "give"
first_text F.Disk = codes "disk"
first_text F.Read = codes "read"
first_text F.Write = codes "write"
first_text F.Revive = codes "revive"

-- those that version 2 alone has
abbrev pub second_words : List FirstWord
second_words =
    F.Frames ∷ F.Stuff ∷ F.Epoch ∷ F.Clear ∷ F.Park ∷ F.Root ∷ F.Classic
    ∷ F.Plug ∷ F.Unplug ∷ F.Reset ∷ F.Give ∷ F.Disk ∷ F.Read ∷ F.Write ∷ F.Revive ∷ []

abbrev pub first_words : List FirstWord
first_words =
    F.Mem ∷ F.Hub ∷ F.Dev ∷ F.Ep ∷ F.Reply ∷ F.Fate ∷ F.Hold ∷ F.Open ∷ F.Cancel ∷ F.Get ∷ F.Put ∷ F.Control ∷ F.Iso ∷ F.Order
    ∷ second_words

-- the first word that is spelled so
abbrev pub first_of : List ℕ → Option FirstWord
first_of w = find (λ f. bytes_eq w (first_text f)) first_words

-- a version of the language has the lines of a first word; those of version 2 are false until they are built
abbrev pub is_built : ℕ → FirstWord → Bool
is_built version F.Frames = false
is_built version F.Stuff = version == 2
is_built version F.Epoch = version == 2
is_built version F.Clear = version == 2
is_built version F.Park = false
is_built version F.Root = false
is_built version F.Classic = false
is_built version F.Plug = false
is_built version F.Unplug = false
is_built version F.Reset = false
is_built version F.Give = false
is_built version F.Disk = false
is_built version F.Read = false
is_built version F.Write = false
is_built version F.Revive = false
is_built version _ = true

abbrev pub built : ℕ → Option FirstWord → Option FirstWord
built version None = None
built version (Some first) = if is_built version first then Some first else None

-- the first word that is spelled so, where the version has it
abbrev pub first_in : ℕ → List ℕ → Option FirstWord
first_in version w = built version (first_of w)

-- the words that stand for themselves
abbrev pub keyword_word : Keyword → List ℕ
keyword_word K.High = codes "high"
keyword_word K.Full = codes "full"
keyword_word K.Low = codes "low"
keyword_word K.Down = codes "down"
keyword_word K.Control = codes "control"
keyword_word K.Bulk = codes "bulk"
keyword_word K.Interrupt = codes "interrupt"
keyword_word K.Iso = codes "iso"
keyword_word K.In = codes "in"
keyword_word K.Out = codes "out"
keyword_word K.Ctl = codes "ctl"
keyword_word K.Data = codes "data"
keyword_word K.Fill = codes "fill"
keyword_word K.Nak = codes "nak"
keyword_word K.Nyet = codes "nyet"
keyword_word K.Stall = codes "stall"
keyword_word K.Request = codes "request"
keyword_word K.Lost = codes "lost"
keyword_word K.Damaged = codes "damaged"
keyword_word K.By = codes "by"
keyword_word K.D = codes "d"
keyword_word K.C = codes "c"
keyword_word K.M = codes "m"
keyword_word K.Multi = codes "multi"

-- a number of any value
abbrev pub any : Slot
any = Number 0 4294967295

-- the address of a device or hub (USB 2.0, 8.3.2.1)
abbrev pub address : Slot
address = Number 1 127

-- the bytes of a qTD (EHCI 1.0, 3.5.4)
abbrev pub by_bytes : Slot
by_bytes = Number 1 longest_qtd

-- the first byte of bytes that each are one more
abbrev pub seed : Slot
seed = Number 0 255

-- a root port (EHCI 1.0, 2.2.3)
abbrev pub root_port : Slot
root_port = Number 1 15

-- the slots of each form of version 2 alone; an endpoint is `<addr> <num> <way>`
abbrev pub second_slots_of : Form → List Slot
second_slots_of form.Frames = Number 256 1024 ∷ []
second_slots_of form.Stuff = any ∷ any ∷ Way ∷ Number 0 6 ∷ []
second_slots_of form.Epoch = any ∷ any ∷ Way ∷ []
second_slots_of form.Clear = any ∷ any ∷ Way ∷ []
second_slots_of form.Park = Number 1 3 ∷ []
second_slots_of form.Root = root_port ∷ any ∷ []
second_slots_of form.ClassicFull = root_port ∷ Key K.Full ∷ []
second_slots_of form.ClassicLow = root_port ∷ Key K.Low ∷ []
second_slots_of form.Plug = any ∷ []
second_slots_of form.Unplug = any ∷ []
second_slots_of form.Reset = any ∷ []
second_slots_of form.Give = any ∷ []
second_slots_of form.Disk = any ∷ any ∷ any ∷ Number 1 1024 ∷ []
second_slots_of form.Read = any ∷ any ∷ Number 1 40 ∷ []
second_slots_of form.Write = any ∷ any ∷ Hex ∷ []
second_slots_of form.WriteFill = any ∷ any ∷ Key K.Fill ∷ Number 512 longest_qtd ∷ seed ∷ []
second_slots_of form.Revive = any ∷ []
second_slots_of _ = []

-- the slots of each form
abbrev pub slots_of : Form → List Slot
slots_of form.Mem = Number 2048 most_memory ∷ []
slots_of form.Hub = address ∷ Number 1 15 ∷ []
slots_of form.HubMulti = address ∷ Number 1 15 ∷ Key K.Multi ∷ []
slots_of form.DevHigh = address ∷ Key K.High ∷ []
slots_of form.DevFull = address ∷ Key K.Full ∷ any ∷ any ∷ []
slots_of form.DevLow = address ∷ Key K.Low ∷ any ∷ any ∷ []
slots_of form.EpControl = any ∷ Number 0 0 ∷ Key K.Ctl ∷ Key K.Control ∷ any ∷ []
slots_of form.EpBulk = any ∷ Number 1 15 ∷ Way ∷ Key K.Bulk ∷ any ∷ []
slots_of form.EpInterrupt = any ∷ Number 1 15 ∷ Way ∷ Key K.Interrupt ∷ any ∷ any ∷ any ∷ []
slots_of form.EpIso = any ∷ Number 1 15 ∷ Way ∷ Key K.Iso ∷ any ∷ any ∷ any ∷ []
slots_of form.ReplyData = any ∷ any ∷ Way ∷ Key K.Data ∷ Hex ∷ []
slots_of form.ReplyFill = any ∷ any ∷ Way ∷ Key K.Fill ∷ Number 0 65536 ∷ seed ∷ []
slots_of form.ReplyNak = any ∷ any ∷ Way ∷ Key K.Nak ∷ Number 1 1000000 ∷ []
slots_of form.ReplyNyet = any ∷ any ∷ Way ∷ Key K.Nyet ∷ []
slots_of form.ReplyStall = any ∷ any ∷ Way ∷ Key K.Stall ∷ []
slots_of form.ReplyRequest = any ∷ any ∷ Way ∷ Key K.Request ∷ Setup ∷ Hex ∷ []
slots_of form.Fate = any ∷ any ∷ Way ∷ Bus ∷ any ∷ Fate ∷ []
slots_of form.Hold = Number 1 4294967295 ∷ Number 1 4294967295 ∷ []
slots_of form.Open = any ∷ any ∷ Way ∷ []
slots_of form.Cancel = any ∷ any ∷ Way ∷ []
slots_of form.Get = any ∷ any ∷ Way ∷ Number 0 65535 ∷ []
slots_of form.GetBy = any ∷ any ∷ Way ∷ Number 0 65535 ∷ Key K.By ∷ by_bytes ∷ []
slots_of form.Put = any ∷ any ∷ Way ∷ Hex ∷ []
slots_of form.PutBy = any ∷ any ∷ Way ∷ Hex ∷ Key K.By ∷ by_bytes ∷ []
slots_of form.PutFill = any ∷ any ∷ Way ∷ Key K.Fill ∷ Number 0 65535 ∷ seed ∷ []
slots_of form.PutFillBy = any ∷ any ∷ Way ∷ Key K.Fill ∷ Number 0 65535 ∷ seed ∷ Key K.By ∷ by_bytes ∷ []
slots_of form.Control = any ∷ Setup ∷ []
slots_of form.ControlData = any ∷ Setup ∷ Hex ∷ []
slots_of form.IsoIn = any ∷ any ∷ Key K.In ∷ Number 1 8 ∷ []
slots_of form.IsoOut = any ∷ any ∷ Key K.Out ∷ Number 1 8 ∷ Number 0 3072 ∷ seed ∷ []
slots_of form.OrderD = Key K.D ∷ any ∷ []
slots_of form.OrderC = Key K.C ∷ any ∷ []
slots_of form.OrderM = Key K.M ∷ any ∷ []
slots_of f = second_slots_of f

-- a hub's lines; version 2 has those of a hub with a translator for each port (USB 2.0, 11.14)
abbrev pub hub_forms : Bool → List Form
hub_forms false = form.Hub ∷ []
hub_forms true = form.Hub ∷ form.HubMulti ∷ []

-- the forms of each first word in a version of the language
abbrev pub forms_of : ℕ → FirstWord → List Form
forms_of version F.Mem = form.Mem ∷ []
forms_of version F.Hub = hub_forms (version == 2)
forms_of version F.Dev = form.DevHigh ∷ form.DevFull ∷ form.DevLow ∷ []
forms_of version F.Ep = form.EpControl ∷ form.EpBulk ∷ form.EpInterrupt ∷ form.EpIso ∷ []
forms_of version F.Reply =
    form.ReplyData ∷ form.ReplyFill ∷ form.ReplyNak ∷ form.ReplyNyet ∷ form.ReplyStall ∷ form.ReplyRequest ∷ []
forms_of version F.Fate = form.Fate ∷ []
forms_of version F.Hold = form.Hold ∷ []
forms_of version F.Open = form.Open ∷ []
forms_of version F.Cancel = form.Cancel ∷ []
forms_of version F.Get = form.Get ∷ form.GetBy ∷ []
forms_of version F.Put = form.Put ∷ form.PutBy ∷ form.PutFill ∷ form.PutFillBy ∷ []
forms_of version F.Control = form.Control ∷ form.ControlData ∷ []
forms_of version F.Iso = form.IsoIn ∷ form.IsoOut ∷ []
forms_of version F.Order = form.OrderD ∷ form.OrderC ∷ form.OrderM ∷ []
forms_of version F.Frames = form.Frames ∷ []
forms_of version F.Stuff = form.Stuff ∷ []
forms_of version F.Epoch = form.Epoch ∷ []
forms_of version F.Clear = form.Clear ∷ []
forms_of version F.Park = form.Park ∷ []
forms_of version F.Root = form.Root ∷ []
forms_of version F.Classic = form.ClassicFull ∷ form.ClassicLow ∷ []
forms_of version F.Plug = form.Plug ∷ []
forms_of version F.Unplug = form.Unplug ∷ []
forms_of version F.Reset = form.Reset ∷ []
forms_of version F.Give = form.Give ∷ []
forms_of version F.Disk = form.Disk ∷ []
forms_of version F.Read = form.Read ∷ []
forms_of version F.Write = form.Write ∷ form.WriteFill ∷ []
forms_of version F.Revive = form.Revive ∷ []
