use Rattle.std.proofs.Common.{ℕ, ◌^◌, ◌<◌, ◌≤◌, length, decimal, rules, arith}
use Rattle.std.proofs.lemmas.Fmt.{decimal_digit, decimal_step, length-decimal-le}
use Rattle.station.proofs.Pouring.{pours_more, pours_same}
use Rattle.station.proofs.text.Page.+put_number.Goals as goal

ten_digits : (n : ℕ) → n < 2 ^ 32 → length (decimal n) ≤ 10
ten_digits n l = length-decimal-le 10 n (omega arith) (omega arith) (omega arith)

pub returns-then-n-lt10 : goal.returns-then-n-lt10
returns-then-n-lt10 t c = record {
  same_bytes = search rules;
  written = pours_same (decimal_digit c.args.n c.if-n-lt10.true) c.put_byte.ensures.written;
  short = omega (arith, c.put_byte.ensures.short);
}

pub put_byte-requires-2 : goal.put_byte-requires-2
put_byte-requires-2 t c = omega (arith, c.put_number.ensures.short)

pub returns : goal.returns
returns t c =
    let w = pours_same (decimal_step c.args.n c.if-n-lt10.false (omega arith)) (pours_more c.put_number.ensures.written c.put_byte-2.ensures.written) in
    record { same_bytes = search rules; written = w; short = omega (arith, w.next, ten_digits c.args.n (omega arith)) }
