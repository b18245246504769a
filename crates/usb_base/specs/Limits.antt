-- The numbers of the standards that several crates name, as the code has them.
use Rattle.std.specs.Prelude.{ℕ}
use Rattle.usb_base.specs.declared.limits.TheConstants.{MICROFRAME_TIME, MICROFRAME_BUDGET, FRAME_BUDGET, BYTE_TIMES_OF_MICROFRAME, FRAME_LIST_LENGTH, LONGEST_QTD, MOST_DESCRIPTORS, MOST_MEMORY}

-- the time of a microframe, in picoseconds (USB 2.0, 8.4.3.1)
abbrev pub microframe_time : ℕ
microframe_time = MICROFRAME_TIME

-- what periodic transactions may take of a high-speed microframe, in picoseconds (USB 2.0, 5.6.4 and 5.7.4)
abbrev pub microframe_budget : ℕ
microframe_budget = MICROFRAME_BUDGET

-- what periodic transactions may take of a full- or low-speed frame, in picoseconds (USB 2.0, 5.6.4 and 5.7.4)
abbrev pub frame_budget : ℕ
frame_budget = FRAME_BUDGET

-- the byte-times that a translator's bus moves in a microframe at most (USB 2.0, 11.18.1)
abbrev pub byte_times_of_microframe : ℕ
byte_times_of_microframe = BYTE_TIMES_OF_MICROFRAME

-- the elements of the periodic frame list (EHCI 1.0, 3.1)
abbrev pub frame_list_length : ℕ
frame_list_length = FRAME_LIST_LENGTH

-- the bytes that a qTD moves at most (EHCI 1.0, 3.5.3)
abbrev pub longest_qtd : ℕ
longest_qtd = LONGEST_QTD

-- the isochronous descriptors of an endpoint that stand in the frame list at a time, at most (EHCI 1.0, 4.7, sets none)
abbrev pub most_descriptors : ℕ
most_descriptors = MOST_DESCRIPTORS

-- the words of a memory at most: 1,048,576 bytes
abbrev pub most_memory : ℕ
most_memory = MOST_MEMORY
