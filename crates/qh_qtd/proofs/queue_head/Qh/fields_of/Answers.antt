use Rattle.qh_qtd.specs.QueueHead.{qh_at}
use Rattle.qh_qtd.proofs.queue_head.Qh.fields_of.Goals as goal

pub returns : goal.returns
unfolding qh_at
returns c = λ i. record {
  link = c.from_word.ensures i;
  addr = c.field.ensures i;
  inactivate = c.bit.ensures i;
  ep = c.field-2.ensures i;
  eps = c.field-3.ensures i;
  dtc = c.bit-2.ensures i;
  head = c.bit-3.ensures i;
  max = c.field-4.ensures i;
  control = c.bit-4.ensures i;
  rl = c.field-5.ensures i;
  smask = c.field-6.ensures i;
  cmask = c.field-7.ensures i;
  hub = c.field-8.ensures i;
  port = c.field-9.ensures i;
  mult = c.field-10.ensures i;
  current = c.address.ensures i;
  next = c.from_word-2.ensures i;
  alternate = c.from_word-3.ensures i;
  nak_cnt = c.field-11.ensures i;
  token = c.from_word-4.ensures i;
  offset = c.field-12.ensures i;
  page0 = c.field-13.ensures i;
  c_prog = c.field-14.ensures i;
  page1 = c.field-15.ensures i;
  frame_tag = c.field-16.ensures i;
  s_bytes = c.field-17.ensures i;
  page2 = c.field-18.ensures i;
  page3 = c.field-19.ensures i;
  page4 = c.field-20.ensures i;
}
