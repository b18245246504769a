use Rattle.itd_sitd.specs.Sitd.{sitd_at}
use Rattle.itd_sitd.proofs.sitd.Sitd.fields_of.Goals as goal

pub returns : goal.returns
unfolding sitd_at
returns c = λ i. record {
  link = c.from_word.ensures i;
  addr = c.field.ensures i;
  ep = c.field-2.ensures i;
  hub = c.field-3.ensures i;
  port = c.field-4.ensures i;
  dir_in = c.bit.ensures i;
  smask = c.field-5.ensures i;
  cmask = c.field-6.ensures i;
  split_state = c.bit-2.ensures i;
  missed = c.bit-3.ensures i;
  xact_err = c.bit-4.ensures i;
  babble = c.bit-5.ensures i;
  buffer_error = c.bit-6.ensures i;
  err = c.bit-7.ensures i;
  active = c.bit-8.ensures i;
  c_prog = c.field-7.ensures i;
  total = c.field-8.ensures i;
  page_select = c.bit-9.ensures i;
  ioc = c.bit-10.ensures i;
  offset = c.field-9.ensures i;
  page0 = c.field-10.ensures i;
  t_count = c.field-11.ensures i;
  tp = c.field-12.ensures i;
  page1 = c.field-13.ensures i;
  back = c.from_word-2.ensures i;
}
