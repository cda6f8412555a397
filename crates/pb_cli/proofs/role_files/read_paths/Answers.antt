use Rattle.pb_cli.proofs.RolePaths.{read_on}
use Rattle.pb_cli.proofs.role_files.read_paths.Goals as goal

pub loop-path-preserved : goal.loop-path-preserved
loop-path-preserved g c =
    read_on c.args.room c.args.paths.now c.loop-path.path-index c.path-item.result c.as_str.result.now c.loop-path.files.items c.push.new.self.items c.in_ok-file.file c.loop-path.left c.room_behind-left.result
    c.len.result c.len-in-loop-path.result
    c.loop-path-test.true c.path-item.is c.as_str.ensures.value c.in_ok-push.ensures.items c.in_ok-file.ensures.path c.in_ok-file.ensures.bound c.len.ensures c.len-in-loop-path.ensures c.room_behind-left.ensures
    c.loop-path.invariant
