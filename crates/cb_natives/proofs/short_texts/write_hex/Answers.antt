use Rattle.std.proofs.Common.{◌≡◌, ◌∙◌, ◌+◌, ◌-◌, ◌/◌, ◌%◌, ap, arith, drop, false, sym}
use Rattle.std.proofs.lemmas.List.{drop_all}
use Rattle.std.proofs.Math.ListN.{length-set}
use Rattle.std.specs.Fmt.{digit_glyph}
use Rattle.cb_natives.proofs.HexLaws.{digits_all, fewer_digits, hex_last, hex_more, hex_onto, put_so, some_before}
use Rattle.cb_natives.proofs.short_texts.write_hex.Goals as goal

pub loop-rest-init : goal.loop-rest-init
loop-rest-init c =
    record {
      low = omega arith;
      size = c.told-bytes;
      few = omega (arith, c.ranges.number);
      digits = digits_all c.args.number ∙ ap (hex_onto 64 c.args.number) (sym (drop_all 8 c.args.bytes.now (omega (arith, c.told-bytes))));
    }

pub overflow_sub-start-in-loop-rest : goal.overflow_sub-start-in-loop-rest
overflow_sub-start-in-loop-rest c = some_before c.loop-rest.rest c.loop-rest.start c.loop-rest-test.true c.loop-rest.invariant.few

pub loop-rest-preserved : goal.loop-rest-preserved
loop-rest-preserved c =
    let before = c.loop-rest.invariant in
    let some = some_before c.loop-rest.rest c.loop-rest.start c.loop-rest-test.true before.few in
    let next : c.loop-rest.start - 1 + 1 ≡ c.loop-rest.start = omega (arith, some) in
    record {
      low = omega (arith, before.low);
      size = length-set c.loop-rest.bytes c.loop-rest.start c.hex_digit.result ∙ before.size;
      few = fewer_digits c.loop-rest.rest c.loop-rest.start (c.loop-rest.start - 1) before.few next;
      digits = before.digits
          ∙ hex_more (57 + c.loop-rest.start) (57 + (c.loop-rest.start - 1)) c.loop-rest.rest (drop (c.loop-rest.start + 1) c.loop-rest.bytes) (omega (arith, some)) c.loop-rest-test.true
          ∙ ap (hex_onto (57 + (c.loop-rest.start - 1)) (c.loop-rest.rest / 16))
          (put_so c.loop-rest.bytes c.loop-rest.start (c.loop-rest.start - 1 + 1) c.hex_digit.result (digit_glyph false (c.loop-rest.rest % 16)) c.hex_digit.ensures next (omega (arith, before.low, before.size)));
    }

pub returns-clause-digits : goal.returns-clause-digits
returns-clause-digits c =
    let before = c.loop-rest.invariant in
    let same : c.loop-rest.start ≡ c.loop-rest.start = omega arith in
    sym (before.digits
    ∙ hex_last (57 + c.loop-rest.start) (56 + c.loop-rest.start) c.loop-rest.rest (drop (c.loop-rest.start + 1) c.loop-rest.bytes) (omega arith) c.loop-rest-test.false
    ∙ put_so c.loop-rest.bytes c.loop-rest.start c.loop-rest.start c.hex_digit-2.result (digit_glyph false c.loop-rest.rest) c.hex_digit-2.ensures same (omega (arith, before.low, before.size)))
