use Rattle.std.proofs.Common.{arith}
use Rattle.vol_base.specs.Bytes.{bytes_of}
use Rattle.hint_blocks.proofs.Written.{put_in_rest}
use Rattle.hint_blocks.proofs.spelling.put_number.Goals as goal

pub returns : goal.returns
unfolding bytes_of
returns c = put_in_rest c.args.at c.args.entry.now (bytes_of 4 c.args.number) c.write_u32.new.buf (omega arith) c.write_u32.ensures
