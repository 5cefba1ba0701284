-- Assumes nothing.
use Rattle.rescue.proofs.Internal.Marking.{kinds-1, kinds-2, kinds-3, kinds-4, fits-1, fits-2, fits-3, fits-4}
use Rattle.rescue.proofs.put_kinds.Goals as goal

pub put-first-requires : goal.put-first-requires
put-first-requires c = let s = c in let a = s.args in fits-1 a.out.now a.n a.place a.m s.requires

pub put-second-requires : goal.put-second-requires
put-second-requires c =
    let s = c in
    let a = s.args in
    let k1 = kinds-1 a.out.now a.n a.place a.m s.requires c.put-first.ensures in
    fits-2 a.out.now a.n a.place a.m s.requires k1

pub put-third-requires : goal.put-third-requires
put-third-requires c =
    let s = c in
    let a = s.args in
    let k1 = kinds-1 a.out.now a.n a.place a.m s.requires c.put-first.ensures in
    let k2 = kinds-2 a.out.now a.n a.place a.m s.requires k1 c.put-second.ensures in
    fits-3 a.out.now a.n a.place a.m s.requires k2

pub put-requires : goal.put-requires
put-requires c =
    let s = c in
    let a = s.args in
    let k1 = kinds-1 a.out.now a.n a.place a.m s.requires c.put-first.ensures in
    let k2 = kinds-2 a.out.now a.n a.place a.m s.requires k1 c.put-second.ensures in
    let k3 = kinds-3 a.out.now a.n a.place a.m s.requires k2 c.put-third.ensures in
    fits-4 a.out.now a.n a.place a.m s.requires k3

pub returns : goal.returns
returns c =
    let b = c in
    let s = b in
    let a = s.args in
    let k1 = kinds-1 a.out.now a.n a.place a.m s.requires b.put-first.ensures in
    let k2 = kinds-2 a.out.now a.n a.place a.m s.requires k1 b.put-second.ensures in
    let k3 = kinds-3 a.out.now a.n a.place a.m s.requires k2 b.put-third.ensures in
    kinds-4 a.out.now a.n a.place a.m s.requires k3 c.put.ensures
