-- `write_line_state` promises a space, the name, `=` and the letter of the state. What `write!` ensures is
-- this text, once the letter is put in.
use Rattle.lw_bench.proofs.Common.{◌++◌, ap, codes, string_bytes, Bytes, written-equal_text}
use Rattle.lw_bench.proofs.page.write_line_state.Goals as goal

pub returns : goal.returns
returns g c =
    written-equal_text c.write.result (string_bytes c.args.out.now) _ _ _
    (ap (λ (t : Bytes). codes " " ++ (c.args.name.now ++ (codes "=" ++ t))) c.letter.ensures) c.write.ensures.bytes
