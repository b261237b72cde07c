use Rattle.std.proofs.Common.{◌<◌, length, replicate, arith}
use Rattle.std.proofs.lemmas.List.{length-map, map-set, map_push, set-append_left}
use Rattle.shared_disk.specs.MemDisk.{bytes_of}
use Rattle.vol_base.specs.Bytes.{zeros}
use Rattle.device_tests.proofs.few_blocks.FewBlocksStore.set_block.Goals as goal

pub returns-clause-done : goal.returns-clause-done
returns-clause-done c =
    let s = c.args.self.now in
    let front : c.args.place < length (bytes_of s.front.items) =
    omega (arith, length-map s.front.items (λ block. block.0), c.len.ensures, s.front.ok.0) in
    let put = set-append_left (bytes_of s.front.items) (replicate s.rest (zeros 4096)) c.args.place c.args.block.now.0 front in
    simp (c.push_reserved.ensures.items, c.reserve.ensures.items, map-set, map_push, put)
