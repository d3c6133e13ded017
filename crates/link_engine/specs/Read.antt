-- What the inputs are, as definitions see it.
use Rattle.input_files.specs.Inputs.{InputFiles}
use Rattle.input_read.specs.Opened.{Contents}
use Rattle.lib_bind.specs.declared.named.NamedStub.{NamedStub}
use Rattle.std.specs.Prelude.{List}

abbrev pub contents_as : InputFiles × List NamedStub → Contents
contents_as read = record { inputs = read.0.inputs; objects = read.0.objects; stubs = read.1 }
