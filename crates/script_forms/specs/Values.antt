-- What the words of a form say.
use Rattle.std.specs.Prelude.{ℕ, Bool, true, false, if◌then◌else◌, List, [], Some, None, unwrap_or, slice_index_or, length, replicate, ◌==◌}
use Rattle.std.specs.Str.{bytes_eq}
use Rattle.usb_base.specs.declared.packets.Way.{Way}
use Rattle.usb_base.specs.declared.packets.Way.TheVariants as way
use Rattle.usb_base.specs.declared.packets.Fate.{Fate}
use Rattle.usb_base.specs.declared.packets.Fate.TheVariants as fate
use Rattle.usb_base.specs.declared.packets.Speed.TheVariants as speed
use Rattle.usb_base.specs.declared.packets.EpKind.{EpKind}
use Rattle.usb_base.specs.declared.packets.EpKind.TheVariants as kind
use Rattle.script_types.specs.declared.scripts.Event.TheVariants as event
use Rattle.script_forms.specs.declared.table.Keyword.TheVariants as K
use Rattle.script_forms.specs.declared.table.Form.{Form}
use Rattle.script_forms.specs.declared.table.Form.TheVariants as form
use Rattle.script_forms.specs.declared.statements.Name.{Name}
use Rattle.script_forms.specs.declared.statements.EpLine.{EpLine}
use Rattle.script_forms.specs.declared.statements.Content.TheVariants as content
use Rattle.script_forms.specs.declared.statements.Answer.TheVariants as answer
use Rattle.script_forms.specs.declared.statements.Statement.{Statement}
use Rattle.script_forms.specs.declared.statements.Statement.TheVariants as says
use Rattle.script_forms.specs.Table.{keyword_word}
use Rattle.script_forms.specs.Syntax.{number_of, hex_of}

-- the word at a place
abbrev pub word_at : ℕ → List (List ℕ) → List ℕ
word_at i ws = slice_index_or ws i []

-- the number at a place
abbrev pub number_at : ℕ → List (List ℕ) → ℕ
number_at i ws = unwrap_or (number_of (word_at i ws)) 0

-- the bytes at a place
abbrev pub bytes_at : ℕ → List (List ℕ) → List ℕ
bytes_at i ws = unwrap_or (hex_of (word_at i ws)) []

-- eight bytes, or eight zeros in place of any other number of bytes
abbrev pub eight_of : List ℕ → List ℕ
eight_of bytes = if length bytes == 8 then bytes else replicate 8 0

-- the setup bytes at a place
abbrev pub setup_at : ℕ → List (List ℕ) → List ℕ
setup_at i ws = eight_of (bytes_at i ws)

-- the way at a place
abbrev pub way_at : ℕ → List (List ℕ) → Way
way_at i ws = if bytes_eq (word_at i ws) (keyword_word K.In) then way.In else if bytes_eq (word_at i ws) (keyword_word K.Out) then way.Out else way.Ctl

-- the place has `down`
abbrev pub is_down_at : ℕ → List (List ℕ) → Bool
is_down_at i ws = bytes_eq (word_at i ws) (keyword_word K.Down)

-- the fate at a place
abbrev pub fate_at : ℕ → List (List ℕ) → Fate
fate_at i ws = if bytes_eq (word_at i ws) (keyword_word K.Lost) then fate.Lost else fate.Damaged

-- the endpoint at the first three places
abbrev pub named : List (List ℕ) → Name
named ws = record { addr = number_at 0 ws; num = number_at 1 ws; way = way_at 2 ws }

-- an endpoint that isn't periodic
abbrev pub plain_ep : EpKind → List (List ℕ) → EpLine
plain_ep kind ws = record { name = named ws; kind = kind; max = number_at 4 ws; period = 0; multi = 1 }

-- an interrupt or isochronous endpoint
abbrev pub periodic_ep : EpKind → List (List ℕ) → EpLine
periodic_ep kind ws = record { name = named ws; kind = kind; max = number_at 4 ws; period = number_at 5 ws; multi = number_at 6 ws }

-- what the words behind the first say
unfoldable pub statement_of : Form → List (List ℕ) → Statement
statement_of form.Mem ws = says.Mem (number_at 0 ws)
statement_of form.Hub ws = says.Hub (number_at 0 ws) (number_at 1 ws) false
statement_of form.HubMulti ws = says.Hub (number_at 0 ws) (number_at 1 ws) true
statement_of form.DevHigh ws = says.DevHigh (number_at 0 ws)
statement_of form.DevFull ws = says.DevBelow (record { addr = number_at 0 ws; speed = speed.Full; hub = number_at 2 ws; port = number_at 3 ws })
statement_of form.DevLow ws = says.DevBelow (record { addr = number_at 0 ws; speed = speed.Low; hub = number_at 2 ws; port = number_at 3 ws })
statement_of form.EpControl ws = says.Ep (plain_ep kind.Control ws)
statement_of form.EpBulk ws = says.Ep (plain_ep kind.Bulk ws)
statement_of form.EpInterrupt ws = says.Ep (periodic_ep kind.Interrupt ws)
statement_of form.EpIso ws = says.Ep (periodic_ep kind.Iso ws)
statement_of form.ReplyData ws = says.Reply (named ws) (answer.Data (bytes_at 4 ws))
statement_of form.ReplyFill ws = says.Reply (named ws) (answer.Fill (number_at 4 ws) (number_at 5 ws))
statement_of form.ReplyNak ws = says.Reply (named ws) (answer.Nak (number_at 4 ws))
statement_of form.ReplyNyet ws = says.Reply (named ws) answer.Nyet
statement_of form.ReplyStall ws = says.Reply (named ws) answer.Stall
statement_of form.ReplyRequest ws = says.Reply (named ws) (answer.Request (setup_at 4 ws) (bytes_at 5 ws))
statement_of form.Fate ws = says.Fate (record { name = named ws; down = is_down_at 3 ws; k = number_at 4 ws; fate = fate_at 5 ws })
statement_of form.Hold ws = says.Hold (number_at 0 ws) (number_at 1 ws)
statement_of form.Open ws = says.Open (named ws)
statement_of form.Cancel ws = says.Cancel (named ws)
statement_of form.Get ws = says.Get (record { name = named ws; len = number_at 3 ws; by = None })
statement_of form.GetBy ws = says.Get (record { name = named ws; len = number_at 3 ws; by = Some (number_at 5 ws) })
statement_of form.Put ws = says.Put (record { name = named ws; content = content.Given (bytes_at 3 ws); by = None })
statement_of form.PutBy ws = says.Put (record { name = named ws; content = content.Given (bytes_at 3 ws); by = Some (number_at 5 ws) })
statement_of form.PutFill ws = says.Put (record { name = named ws; content = content.Fill (number_at 4 ws) (number_at 5 ws); by = None })
statement_of form.PutFillBy ws = says.Put (record { name = named ws; content = content.Fill (number_at 4 ws) (number_at 5 ws); by = Some (number_at 7 ws) })
statement_of form.Control ws = says.Control (record { addr = number_at 0 ws; setup = setup_at 1 ws; bytes = None })
statement_of form.ControlData ws = says.Control (record { addr = number_at 0 ws; setup = setup_at 1 ws; bytes = Some (bytes_at 2 ws) })
statement_of form.IsoIn ws = says.Iso (record { name = named ws; count = number_at 3 ws; len = 0; seed = 0 })
statement_of form.IsoOut ws = says.Iso (record { name = named ws; count = number_at 3 ws; len = number_at 4 ws; seed = number_at 5 ws })
statement_of form.OrderD ws = says.Order event.D (number_at 1 ws)
statement_of form.OrderC ws = says.Order event.C (number_at 1 ws)
statement_of form.OrderM ws = says.Micro (number_at 1 ws)
statement_of form.Epoch ws = says.Reply (named ws) answer.Epoch
statement_of form.Clear ws = says.Clear (named ws)
statement_of form.Stuff ws = says.Stuff (named ws) (number_at 3 ws)
statement_of _ ws = says.Unbuilt
