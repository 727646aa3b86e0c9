-- The exit status that tells of a failure.
use Rattle.std.specs.Prelude.{ℕ}
use Rattle.proxy_settings.specs.declared.file.FileFault.{FileFault}
use Rattle.proxy_settings.specs.declared.file.FileFault.TheVariants as file
use Rattle.server_faults.specs.declared.gateway.ServeFault.{ServeFault}
use Rattle.server_faults.specs.declared.gateway.ServeFault.TheVariants as serve
use Rattle.server_faults.specs.declared.device.DeviceFault.{DeviceFault}
use Rattle.server_faults.specs.declared.device.DeviceFault.TheVariants as device
use Rattle.command_line.specs.declared.report.Failure.{Failure}
use Rattle.command_line.specs.declared.report.Failure.TheVariants as failure
use Rattle.command_line.specs.declared.fault.ReplayFault.{ReplayFault}
use Rattle.command_line.specs.declared.fault.ReplayFault.TheVariants.{Line, Device, Memory}

abbrev pub replay_status : ReplayFault → ℕ
replay_status (Line number) = 1
replay_status Device = 3
replay_status Memory = 3

-- 1 for what is refused, 2 for wrong arguments, 3 for a device or for want of memory
abbrev pub exit_status : Failure → ℕ
exit_status failure.Usage = 2
exit_status failure.Settings = 1
exit_status failure.Device = 3
exit_status failure.Memory = 3
exit_status (failure.Replay fault) = replay_status fault

-- A file that was read is refused; one that can't be read is a failed device.
abbrev pub setup_failure : FileFault → Failure
setup_failure (file.Unread error) = failure.Device
setup_failure file.TooLarge = failure.Settings
setup_failure (file.NotText line) = failure.Settings
setup_failure (file.Refused line reason) = failure.Settings
setup_failure file.Memory = failure.Memory

-- A taken or bad address, a clock, a thread or a socket that fails is a failed device.
abbrev pub serve_failure : ServeFault → Failure
serve_failure (serve.Listen address error) = failure.Device
serve_failure (serve.Udp address error) = failure.Device
serve_failure (serve.Window address error) = failure.Device
serve_failure (serve.Clock error) = failure.Device
serve_failure serve.Thread = failure.Device
serve_failure serve.Stopped = failure.Device
serve_failure serve.Memory = failure.Memory

-- The same of the demonstration device.
abbrev pub device_failure : DeviceFault → Failure
device_failure (device.Listen address error) = failure.Device
device_failure (device.Clock error) = failure.Device
device_failure device.Stopped = failure.Device
device_failure device.Memory = failure.Memory
